-- An address register is read as any other place is: its low part of a size. Assumes nothing.
use Rattle.std.specs.Prelude.{ℕ, ◌≡◌, refl}
use Rattle.manual.specs.declared.Size.{Size}
use Rattle.manual.specs.declared.Size.TheVariants.{Byte, Word, Long}
use Rattle.manual.specs.Word.{cut}
use Rattle.manual.specs.Address.{part_of_address}

pub part_cut : (z : Size) (a : ℕ) → part_of_address z a ≡ cut z a
part_cut Byte a = refl
part_cut Word a = refl
part_cut Long a = refl
