use Rattle.std.proofs.Common.{refl}
use Rattle.manual.specs.Emac.{emac_of, acc_of, with_acc}
use Rattle.emac.proofs.sum.accumulate_plainly.Goals as goal

pub returns : goal.returns
unfolding with_acc acc_of
returns c = let x = c.args in c.summed_plainly-s.ensures.value (emac_of x.macsr x.mask _) refl refl
