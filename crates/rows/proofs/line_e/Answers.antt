-- `rows::line_e` meets its contract. Assumes nothing.
use Rattle.rows.proofs.DecodeLaws.{taken, last}
use Rattle.rows.proofs.line_e.Goals as goal

pub returns-then-w-eq57472 : goal.returns-then-w-eq57472
returns-then-w-eq57472 c = search taken

pub returns-then-w-eq57480 : goal.returns-then-w-eq57480
returns-then-w-eq57480 c = search taken

pub returns : goal.returns
returns c = search last
