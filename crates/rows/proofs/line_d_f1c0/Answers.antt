-- `rows::line_d_f1c0` meets its contract. Assumes nothing.
use Rattle.rows.proofs.DecodeLaws.{taken, last}
use Rattle.rows.proofs.line_d_f1c0.Goals as goal

pub returns-then-w-eq53440 : goal.returns-then-w-eq53440
returns-then-w-eq53440 c = search taken

pub returns-then-w-eq53696 : goal.returns-then-w-eq53696
returns-then-w-eq53696 c = search taken

pub returns-then-w-eq53248 : goal.returns-then-w-eq53248
returns-then-w-eq53248 c = search taken

pub returns : goal.returns
returns c = search last
