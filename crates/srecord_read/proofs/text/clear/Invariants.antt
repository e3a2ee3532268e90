-- `srecord_read::text::clear` meets its contract: what is left is clear where the whole is. Assumes nothing.
use Rattle.std.proofs.Common.{◌≡◌, length}
use Rattle.srecord_read.specs.Texts.{clear_from}
use Rattle.srecord_read.proofs.text.clear.Given as goal

abbrev pub invariant-loop-line : goal.invariant-loop-line
invariant-loop-line l = clear_from l.rest ≡ clear_from l.text

abbrev pub decreases-loop-line : goal.decreases-loop-line
decreases-loop-line l = length l.rest
