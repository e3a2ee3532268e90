-- `srecord_read::read::start_of` meets its contract: what is left has the answer of the whole. Assumes nothing.
use Rattle.std.proofs.Common.{◌≡◌, length}
use Rattle.srecord_read.proofs.ReadLaws.{verdict_of}
use Rattle.srecord_read.proofs.read.start_of.Given as goal

abbrev pub invariant-loop-line : goal.invariant-loop-line
invariant-loop-line l = verdict_of l.size l.rest ≡ verdict_of l.size l.text

abbrev pub decreases-loop-line : goal.decreases-loop-line
decreases-loop-line l = length l.rest
