-- `coresrecord::run::answer_from_ten` meets its contract. Assumes nothing.
use Rattle.manual.specs.Image.{text_of}
use Rattle.coresrecord.proofs.run.answer_from_ten.Goals as goal

pub returns : goal.returns
unfolding text_of
returns c = rw c.copy_from_slice.ensures.after
