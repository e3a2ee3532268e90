-- `rows::line_9_f1c0` meets its contract. Assumes nothing.
use Rattle.rows.proofs.DecodeLaws.{taken, last}
use Rattle.rows.proofs.line_9_f1c0.Goals as goal

pub returns-then-w-eq37056 : goal.returns-then-w-eq37056
returns-then-w-eq37056 c = search taken

pub returns-then-w-eq37312 : goal.returns-then-w-eq37312
returns-then-w-eq37312 c = search taken

pub returns-then-w-eq36864 : goal.returns-then-w-eq36864
returns-then-w-eq36864 c = search taken

pub returns : goal.returns
returns c = search last
