-- The sum is that of the bytes passed.
use Rattle.std.proofs.Common.{◌≡◌, ◌<◌}
use Rattle.replay.specs.Sums.{summed}
use Rattle.replay.proofs.sum_of.Given as goal

abbrev pub invariant-loop-byte : goal.invariant-loop-byte
invariant-loop-byte l = (l.sum ≡ summed l.byte-index l.file) × (l.sum < 4294967296)
