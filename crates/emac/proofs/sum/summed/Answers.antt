use Rattle.emac.specs.MacLaws.{stays}
use Rattle.emac.proofs.sum.summed.Goals as goal

pub returns-then-pav : goal.returns-then-pav
returns-then-pav c =
    let x = c.args in let t = c.args.t in
    stays x.m x.a x.i t.scale t.sub t.x t.y _ _ c.mode_of-k.ensures c.pav.ensures (rw (c.if-k.true) c.if-pav.true)
