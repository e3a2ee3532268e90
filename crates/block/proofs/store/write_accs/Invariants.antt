-- The accumulators below i are stored.
use Rattle.std.proofs.Common.{◌≡◌}
use Rattle.block.proofs.StoreLoops.{accs}
use Rattle.block.proofs.store.write_accs.Given as goal

abbrev pub invariant-loop-i : goal.invariant-loop-i
invariant-loop-i l = l.block ≡ accs l.e l.i l.initial.block
