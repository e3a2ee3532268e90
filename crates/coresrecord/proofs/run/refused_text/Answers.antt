-- `coresrecord::run::refused_text` meets its contract. Assumes nothing.
use Rattle.manual.specs.Image.{digit, decimal, answer_line}
use Rattle.srecord.specs.TextRun.{text_answer}
use Rattle.coresrecord.proofs.run.refused_text.Goals as goal

pub returns-in-Done : goal.returns-in-Done
unfolding text_answer answer_line decimal digit
returns-in-Done c = rw c.in-Done.is c.answer_text.ensures

pub returns-in-TooLong : goal.returns-in-TooLong
unfolding text_answer answer_line decimal digit
returns-in-TooLong c = rw c.in-TooLong.is c.answer_text-in-TooLong.ensures

pub returns-in-NotInside : goal.returns-in-NotInside
unfolding text_answer answer_line decimal digit
returns-in-NotInside c = rw c.in-NotInside.is c.answer_text-in-NotInside.ensures

pub returns-in-Malformed : goal.returns-in-Malformed
unfolding text_answer answer_line decimal digit
returns-in-Malformed c = rw c.in-Malformed.is c.answer_from_ten.ensures

pub returns-in-WrongSum : goal.returns-in-WrongSum
unfolding text_answer answer_line decimal digit
returns-in-WrongSum c = rw c.in-WrongSum.is c.answer_from_ten-in-WrongSum.ensures

pub returns-in-NoRoom : goal.returns-in-NoRoom
unfolding text_answer answer_line decimal digit
returns-in-NoRoom c = rw c.in-NoRoom.is c.answer_from_ten-in-NoRoom.ensures
