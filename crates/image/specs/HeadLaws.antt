-- The front of a list says what the whole does. Assumes nothing.
use Rattle.std.proofs.Common.{◌≡◌, ℕ, ◌+◌, ◌≤◌, List, ◌++◌, length, arith}
use Rattle.std.proofs.Math.ListN.{get_or-append}
use Rattle.manual.specs.Memory.{value_at}
use Rattle.memory.specs.MemoryLaws.{value_same}

pub value-front : (h t : List ℕ) (at n : ℕ) → at + n ≤ length h → value_at (h ++ t) at n ≡ value_at h at n
value-front h t at n l = value_same (h ++ t) h at n (λ j k. get_or-append h t 0 (at + j) (omega arith))
