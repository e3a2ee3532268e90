-- `rows::line_a_f1c0` meets its contract. Assumes nothing.
use Rattle.rows.proofs.DecodeLaws.{taken, last}
use Rattle.rows.proofs.line_a_f1c0.Goals as goal

pub returns-then-w-eq41280 : goal.returns-then-w-eq41280
returns-then-w-eq41280 c = search taken

pub returns-then-w-eq40960 : goal.returns-then-w-eq40960
returns-then-w-eq40960 c = search taken

pub returns : goal.returns
returns c = search last
