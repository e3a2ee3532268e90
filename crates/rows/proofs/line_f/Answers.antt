-- `rows::line_f` meets its contract. Assumes nothing.
use Rattle.rows.proofs.DecodeLaws.{taken, last}
use Rattle.rows.proofs.line_f.Goals as goal

pub returns-then-w-eq64448 : goal.returns-then-w-eq64448
returns-then-w-eq64448 c = search taken

pub returns-then-w-eq62464 : goal.returns-then-w-eq62464
returns-then-w-eq62464 c = search taken

pub returns-then-w-eq64256 : goal.returns-then-w-eq64256
returns-then-w-eq64256 c = search taken

pub returns : goal.returns
returns c = search last
