-- `rows::line_5_f0f8` meets its contract. Assumes nothing.
use Rattle.rows.proofs.DecodeLaws.{past, taken}
use Rattle.rows.proofs.line_5_f0f8.Goals as goal

pub line_5_f0c0-requires : goal.line_5_f0c0-requires
line_5_f0c0-requires c = search past

pub returns-in-20488 : goal.returns-in-20488
returns-in-20488 c = search taken

pub returns-in-20552 : goal.returns-in-20552
returns-in-20552 c = search taken

pub returns-in-20616 : goal.returns-in-20616
returns-in-20616 c = search taken

pub returns-in-20672 : goal.returns-in-20672
returns-in-20672 c = search taken

pub returns-in_default : goal.returns-in_default
returns-in_default c = c.line_5_f0c0.ensures
