-- `srecord_read::read::store_text` meets its contract: what is left to store gives the same. Assumes nothing.
use Rattle.std.proofs.Common.{◌∙◌}
use Rattle.srecord_read.proofs.ReadLaws.{placed_here, placed_end}
use Rattle.srecord_read.proofs.read.store_text.Goals as goal

pub loop-line-preserved : goal.loop-line-preserved
loop-line-preserved c =
    let b = c.in-Some in
    rw (c.store_line.ensures, c.bare.ensures) (placed_here c.loop-line.rest.now b.line.now b.after.now b.ensures c.loop-line.mem ∙ c.loop-line.invariant)

pub returns : goal.returns
returns c = placed_end c.loop-line.rest.now c.in_default.ensures c.loop-line.mem ∙ c.loop-line.invariant
