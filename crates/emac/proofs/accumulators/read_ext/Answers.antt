use Rattle.manual.specs.Emac.{read_ext}
use Rattle.emac.proofs.MoveLaws.{acc-next}
use Rattle.emac.proofs.accumulators.read_ext.Goals as goal

pub returns : goal.returns
unfolding read_ext
returns c =
    let x = c.args in
    rw (← acc-next x.e x.i, ← c.acc_of.ensures, ← c.ext_part-high.ensures, ← c.acc_of-2.ensures, ← c.ext_part-low.ensures)
