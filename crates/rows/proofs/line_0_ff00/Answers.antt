-- `rows::line_0_ff00` meets its contract. Assumes nothing.
use Rattle.rows.proofs.DecodeLaws.{taken, last}
use Rattle.rows.proofs.line_0_ff00.Goals as goal

pub returns-then-w-eq2048 : goal.returns-then-w-eq2048
returns-then-w-eq2048 c = search taken

pub returns-then-w-eq256 : goal.returns-then-w-eq256
returns-then-w-eq256 c = search taken

pub returns : goal.returns
returns c = search last
