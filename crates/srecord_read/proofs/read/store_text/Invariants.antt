-- `srecord_read::read::store_text` meets its contract: what is left to store gives the same. Assumes nothing.
use Rattle.std.proofs.Common.{◌≡◌, length}
use Rattle.srecord.specs.Reading.{lines, placed}
use Rattle.srecord_read.proofs.read.store_text.Given as goal

abbrev pub invariant-loop-line : goal.invariant-loop-line
invariant-loop-line l = placed (lines l.rest) l.mem ≡ placed (lines l.text) l.initial.mem

abbrev pub decreases-loop-line : goal.decreases-loop-line
decreases-loop-line l = length l.rest
