-- `arith::multiply::signed_long_product` meets its contract. Assumes nothing.
use mathlib.Core.Path.{◌∙◌}
use Rattle.arith.proofs.MultiplyLaws.{signed-long}
use Rattle.arith.proofs.multiply.signed_long_product.Goals as goal

pub returns : goal.returns
returns c = c.long_product.ensures ∙ signed-long c.args.x c.args.y c.ranges.x.fits c.ranges.y.fits
