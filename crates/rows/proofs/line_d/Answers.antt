-- `rows::line_d` meets its contract. Assumes nothing.
use Rattle.rows.proofs.DecodeLaws.{past, taken}
use Rattle.rows.proofs.line_d.Goals as goal

pub line_d_f1c0-requires : goal.line_d_f1c0-requires
line_d_f1c0-requires c = search past

pub returns-in-53504 : goal.returns-in-53504
returns-in-53504 c = search taken

pub returns-in-53568 : goal.returns-in-53568
returns-in-53568 c = search taken

pub returns-in-53632 : goal.returns-in-53632
returns-in-53632 c = search taken

pub returns-in-53512 : goal.returns-in-53512
returns-in-53512 c = search taken

pub returns-in-53576 : goal.returns-in-53576
returns-in-53576 c = search taken

pub returns-in-53640 : goal.returns-in-53640
returns-in-53640 c = search taken

pub returns-in_default : goal.returns-in_default
returns-in_default c = c.line_d_f1c0.ensures
