use Rattle.emac.proofs.RaisedProduct.{raised-product}
use Rattle.std.proofs.Common.{arith}
use Rattle.emac.proofs.product.product.Goals as goal

pub returns : goal.returns
returns c = raised-product c.args.x c.args.y _ _ _ (omega arith) (omega arith) c.raised_long-a.ensures.0 c.raised_long-b.ensures.0 c.mul32-m.ensures
