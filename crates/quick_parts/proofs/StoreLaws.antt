-- A store that is refused stores nothing, as `ok` tells of it. Assumes nothing.
use Rattle.std.specs.Prelude.{ℕ, ◌≡◌, Option, None, Result, Ok, Err, refl}
use Rattle.std.specs.Result.{result_ok}
use Rattle.manual.specs.declared.Fault.{Fault}
use Rattle.manual.specs.declared.Size.{Size}
use Rattle.manual.specs.Memory.{Memory, storing, stored}
use Rattle.memory.specs.MemoryLaws.{not-stored}

pub refused_store : (m : Memory) (a : ℕ) (z : Size) (v : ℕ) (r : Result Unit Fault) → r ≡ storing m a z → ◌≡◌ {A = Option Unit} None (result_ok r) → stored m a z v ≡ m
refused_store m a z v (Ok tt) h q = absurd (cc)
refused_store m a z v (Err x) h q = not-stored m a z v (Err x) x h refl
