-- `rows::line_c` meets its contract. Assumes nothing.
use Rattle.rows.proofs.DecodeLaws.{taken, last}
use Rattle.rows.proofs.line_c.Goals as goal

pub returns-then-w-eq49344 : goal.returns-then-w-eq49344
returns-then-w-eq49344 c = search taken

pub returns-then-w-eq49600 : goal.returns-then-w-eq49600
returns-then-w-eq49600 c = search taken

pub returns-then-w-eq49152 : goal.returns-then-w-eq49152
returns-then-w-eq49152 c = search taken

pub returns : goal.returns
returns c = search last
