-- `arith::multiply::signed_word_product` meets its contract. Assumes nothing.
use mathlib.Core.Path.{◌∙◌}
use Rattle.arith.proofs.MultiplyLaws.{signed_word}
use Rattle.arith.proofs.multiply.signed_word_product.Goals as goal

pub returns : goal.returns
returns c = c.signed_long_product.ensures ∙ rw (c.sign_extended-a.ensures, c.sign_extended-b.ensures)
    (signed_word c.args.x c.args.y)
