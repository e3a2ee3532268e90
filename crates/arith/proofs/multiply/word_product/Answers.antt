-- `arith::multiply::word_product` meets its contract. Assumes nothing.
use mathlib.Core.Path.{refl}
use borrow.Author.Rules.{rules}
use Rattle.manual.specs.Word.{cut}
use Rattle.manual.specs.Multiply.{word_product}
use Rattle.arith.proofs.MultiplyLaws.{below}
use Rattle.arith.proofs.multiply.word_product.Goals as goal

pub overflow_mul-result : goal.overflow_mul-result
overflow_mul-result c = record { fits = below 16 (search rules) (search rules) }

pub returns : goal.returns
unfolding word_product cut
returns c = refl
