-- What the work of a call on an accumulator gives, or why the call is refused. Assumes nothing.
use Rattle.std.specs.Prelude.{◌≡◌, ℕ, cond, ltb, Result, Ok, Err}
use Rattle.manual.specs.declared.Cpu.{Cpu}
use Rattle.manual.specs.declared.Reply.{Reply}
use Rattle.manual.specs.declared.Reply.TheVariants.{NotAdmitted, OutOfRange}
use Rattle.manual.specs.Admitted.{admitted}

-- x is what the work gives
abbrev pub on_acc : {A : Type 0} → Cpu → ℕ → A → Result A Reply
on_acc s i x = cond (admitted s) (cond (ltb i 4) (Ok x) (Err OutOfRange)) (Err NotAdmitted)

-- the work, of which `post` says what it may give, can give x alone
abbrev pub Gives : {A : Type 0} → (A → Type 0) → A → Type 0
Gives {A} post x = (a : A) → post a → a ≡ x
