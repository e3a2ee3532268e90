-- `memory::many::store_all` meets its contract: what is left to store, stored, gives what is due. Assumes nothing.
use Rattle.std.proofs.Common.{◌≡◌, ◌-◌, ◌≤◌, length}
use Rattle.manual.specs.Memory.{stored_many}
use Rattle.memory.proofs.many.store_all.Given as goal

abbrev pub invariant-loop-n : goal.invariant-loop-n
invariant-loop-n l =
    (l.n ≤ 16) × (length l.mem ≡ length l.initial.mem) × (stored_many (16 - l.n) l.g l.n l.mask l.at l.mem ≡ stored_many 16 l.g 0 l.given l.start l.initial.mem)
