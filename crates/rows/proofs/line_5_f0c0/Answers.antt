-- `rows::line_5_f0c0` meets its contract. Assumes nothing.
use Rattle.rows.proofs.DecodeLaws.{taken, last}
use Rattle.rows.proofs.line_5_f0c0.Goals as goal

pub returns-then-w-eq20672 : goal.returns-then-w-eq20672
returns-then-w-eq20672 c = search taken

pub returns : goal.returns
returns c = search last
