use Rattle.std.proofs.Common.{◌≡◌}
use lib.Seq.{paste}
use Rattle.srecord_line.specs.Pairs.{values}
use Rattle.srecord_line.proofs.hex.HexBytes.store.Given as goal

abbrev pub invariant-loop-i : goal.invariant-loop-i
invariant-loop-i l = l.mem ≡ paste l.initial.mem l.at (values l.pair-items) l.i
