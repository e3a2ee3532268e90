-- `srecord_read::text::clear` meets its contract: what is left is clear where the whole is. Assumes nothing.
use Rattle.std.proofs.Common.{◌∙◌}
use Rattle.srecord_read.proofs.ReadLaws.{not_clear, still_clear, clear_end}
use Rattle.srecord_read.proofs.text.clear.Goals as goal

pub returns-then-not-is_empty : goal.returns-then-not-is_empty
returns-then-not-is_empty c =
    let b = c.in-Some in
    not_clear c.loop-line.rest.now b.line.now b.after.now b.ensures (rw c.bare.ensures at c.if-not-is_empty.ensures) ∙ c.loop-line.invariant

pub loop-line-preserved : goal.loop-line-preserved
loop-line-preserved c =
    let b = c.in-Some in
    still_clear c.loop-line.rest.now b.line.now b.after.now b.ensures (rw c.bare.ensures at c.if-not-is_empty.ensures) ∙ c.loop-line.invariant

pub returns : goal.returns
returns c = c.is_empty-2.ensures ∙ clear_end c.loop-line.rest.now c.in_default.ensures ∙ c.loop-line.invariant
