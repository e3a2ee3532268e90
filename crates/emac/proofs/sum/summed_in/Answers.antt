use Rattle.std.proofs.Common.{refl}
use Rattle.manual.specs.Emac.{pav}
use Rattle.emac.specs.ProductLaws as product
use Rattle.emac.specs.MacLaws.{sums, taken}
use Rattle.emac.proofs.sum.summed_in.Goals as goal

pub returns : goal.returns
returns c =
    let x = c.args in let t = c.args.t in
    sums x.m x.a x.i t.scale t.sub t.x t.y x.k (pav x.m x.i) c.requires.0 refl c.requires.1
    c.scaled_product-p.result _ _ _ (product.taken _ t.scale t.x t.y c.scaled_product-p.result c.scaled_product-p.ensures)
    (taken _ x.a _ c.value_of-c.ensures) c.sum.ensures c.with_sum.ensures
