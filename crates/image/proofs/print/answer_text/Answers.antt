-- `image::print::answer_text` meets its contract: the line is all that is put into an empty text. Assumes nothing.
use Rattle.image.specs.Texts.{none}
use Rattle.image.proofs.PrintLaws.{answer_is, answer-fits, none_shown, more_shown}
use Rattle.image.proofs.print.answer_text.Goals as goal

pub returns : goal.returns
unfolding none
returns c =
    let n = c.number_of in
    more_shown none c.hex_line.new.text _ _ none_shown (rw (answer_is c.args.reply n.result n.ensures.0 n.ensures.1) at c.hex_line.ensures) (answer-fits c.args.reply)
