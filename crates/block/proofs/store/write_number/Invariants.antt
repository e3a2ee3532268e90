-- What is left to store, stored, gives what is due.
use Rattle.std.proofs.Common.{◌≡◌, ◌-◌}
use Rattle.manual.specs.Memory.{store_at}
use Rattle.block.proofs.store.write_number.Given as goal

abbrev pub invariant-loop-k : goal.invariant-loop-k
invariant-loop-k l = store_at l.block l.at (l.n - l.k) l.w ≡ store_at l.initial.block l.at l.n l.v
