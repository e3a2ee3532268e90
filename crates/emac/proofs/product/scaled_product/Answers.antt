use Rattle.emac.specs.ProductLaws.{scaled-is, told}
use Rattle.emac.proofs.product.scaled_product.Goals as goal

pub returns : goal.returns
returns c =
    let p = c.mac_product-p in let x = c.args in
    told x.k x.scale x.x x.y _
    (scaled-is x.k x.scale x.x x.y p.result _ _ p.ensures c.scale_of.ensures c.scaled.ensures)
