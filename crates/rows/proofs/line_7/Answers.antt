-- `rows::line_7` meets its contract. Assumes nothing.
use Rattle.rows.proofs.DecodeLaws.{taken, last}
use Rattle.rows.proofs.line_7.Goals as goal

pub returns-then-w-eq28928 : goal.returns-then-w-eq28928
returns-then-w-eq28928 c = search taken

pub returns-then-w-eq29056 : goal.returns-then-w-eq29056
returns-then-w-eq29056 c = search taken

pub returns : goal.returns
returns c = search last
