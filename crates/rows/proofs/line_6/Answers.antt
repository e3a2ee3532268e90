-- `rows::line_6` meets its contract. Assumes nothing.
use Rattle.rows.proofs.DecodeLaws.{taken, last}
use Rattle.rows.proofs.line_6.Goals as goal

pub returns-then-w-eq24576 : goal.returns-then-w-eq24576
returns-then-w-eq24576 c = search taken

pub returns-then-w-eq24832 : goal.returns-then-w-eq24832
returns-then-w-eq24832 c = search taken

pub returns : goal.returns
returns c = search last
