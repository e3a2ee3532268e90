-- `rows::line_5` meets its contract. Assumes nothing.
use Rattle.rows.proofs.DecodeLaws.{past, taken, long-addq}
use Rattle.rows.proofs.line_5.Goals as goal

pub returns-then-w-eq20608 : goal.returns-then-w-eq20608
returns-then-w-eq20608 c = long-addq c.requires c.if-w-eq20608.true

pub line_5_f0f8-requires : goal.line_5_f0f8-requires
line_5_f0f8-requires c = search past

pub returns-in-20730 : goal.returns-in-20730
returns-in-20730 c = search taken

pub returns-in-20731 : goal.returns-in-20731
returns-in-20731 c = search taken

pub returns-in-20732 : goal.returns-in-20732
returns-in-20732 c = search taken

pub returns-in_default : goal.returns-in_default
returns-in_default c = c.line_5_f0f8.ensures
