use Rattle.emac.proofs.ReadLaws.{near}
use Rattle.emac.proofs.read.rounded.Goals as goal

pub returns : goal.returns
returns g c = let x = c.args in rw c.quotient.ensures (near x.rt _ x.r c.requires.0)
