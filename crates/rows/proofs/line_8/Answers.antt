-- `rows::line_8` meets its contract. Assumes nothing.
use Rattle.rows.proofs.DecodeLaws.{taken, last}
use Rattle.rows.proofs.line_8.Goals as goal

pub returns-then-w-eq32960 : goal.returns-then-w-eq32960
returns-then-w-eq32960 c = search taken

pub returns-then-w-eq33216 : goal.returns-then-w-eq33216
returns-then-w-eq33216 c = search taken

pub returns-then-w-eq32768 : goal.returns-then-w-eq32768
returns-then-w-eq32768 c = search taken

pub returns : goal.returns
returns c = search last
