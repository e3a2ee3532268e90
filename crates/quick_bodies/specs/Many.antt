-- What is said of MOVEM by the place of its registers.
use Rattle.std.specs.Prelude.{ℕ, Bool, Option, Some, None}
use Rattle.manual.specs.declared.Change.{Change}
use Rattle.manual.specs.Registers.{no_write}
use Rattle.manual.specs.Change.{acting}
use Rattle.instructions.specs.Line4.{many}
use Rattle.quick_bodies.specs.declared.flow.Movem.{Movem}

-- the change that moves registers at a place. None says nothing
abbrev pub moving : Option Movem → Bool → ℕ → Change → Change
moving (Some r) stores sr c = acting sr r.next no_write (many stores r.mask r.at)
moving None stores sr c = c
