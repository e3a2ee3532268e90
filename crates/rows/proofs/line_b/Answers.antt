-- `rows::line_b` meets its contract. Assumes nothing.
use Rattle.rows.proofs.DecodeLaws.{taken, last}
use Rattle.rows.proofs.line_b.Goals as goal

pub returns-then-w-eq45248 : goal.returns-then-w-eq45248
returns-then-w-eq45248 c = search taken

pub returns-then-w-eq45504 : goal.returns-then-w-eq45504
returns-then-w-eq45504 c = search taken

pub returns-then-w-eq45056 : goal.returns-then-w-eq45056
returns-then-w-eq45056 c = search taken

pub returns : goal.returns
returns c = search last
