-- Done is the one reply that has the number 0. Assumes nothing.
use Rattle.std.specs.Prelude.{◌≡◌, refl, true}
use Rattle.std.proofs.lemmas.Bool.{false≢true}
use Rattle.manual.specs.declared.Reply.{Reply}
use Rattle.manual.specs.declared.Reply.TheVariants.{Done, TooLong, NotAdmitted, Stopped, NotInside, NotCarried, OutOfRange, Masked, WrongVersion, WrongLength}
use Rattle.manual.specs.Reply.{is_done}

pub done-is : (n : Reply) → is_done n ≡ true → n ≡ Done
done-is Done h = refl
done-is TooLong h = absurd (false≢true h)
done-is NotAdmitted h = absurd (false≢true h)
done-is Stopped h = absurd (false≢true h)
done-is NotInside h = absurd (false≢true h)
done-is NotCarried h = absurd (false≢true h)
done-is OutOfRange h = absurd (false≢true h)
done-is Masked h = absurd (false≢true h)
done-is WrongVersion h = absurd (false≢true h)
done-is WrongLength h = absurd (false≢true h)
