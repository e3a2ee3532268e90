use Rattle.manual.specs.Emac.{set_ext}
use Rattle.emac.proofs.MoveLaws.{with_ext-next}
use Rattle.emac.proofs.accumulators.set_ext.Goals as goal

pub returns : goal.returns
unfolding set_ext
returns c =
    let x = c.args in
    rw (← c.fractional-fi.ensures, ← c.with_ext-first.ensures, ← with_ext-next _ x.i, ← c.with_ext.ensures)
