-- Before turn k v is the number that the first k bytes are.
use Rattle.std.proofs.Common.{◌≡◌}
use Rattle.manual.specs.Memory.{value_at}
use Rattle.block.proofs.number.read_number.Given as goal

abbrev pub invariant-loop-k : goal.invariant-loop-k
invariant-loop-k l = l.v ≡ value_at l.bytes l.at l.k
