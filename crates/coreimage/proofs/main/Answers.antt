-- The text lies in its bytes.
use Rattle.std.proofs.Common.{arith}
use Rattle.coreimage.proofs.AnswerLaws.{text-inside, text-counted}
use Rattle.coreimage.proofs.main.Goals as goal

pub shared_ref_as_front-write_all : goal.shared_ref_as_front-write_all
shared_ref_as_front-write_all c = omega (arith, text-inside _ _ _ _ _ c.answer-text.ensures)

pub slice_bounds-write_all-end : goal.slice_bounds-write_all-end
slice_bounds-write_all-end c = text-counted _ _ _ _ _ c.answer-text.ensures
