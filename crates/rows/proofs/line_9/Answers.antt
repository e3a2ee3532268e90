-- `rows::line_9` meets its contract. Assumes nothing.
use Rattle.rows.proofs.DecodeLaws.{past, taken}
use Rattle.rows.proofs.line_9.Goals as goal

pub line_9_f1c0-requires : goal.line_9_f1c0-requires
line_9_f1c0-requires c = search past

pub returns-in-37120 : goal.returns-in-37120
returns-in-37120 c = search taken

pub returns-in-37184 : goal.returns-in-37184
returns-in-37184 c = search taken

pub returns-in-37248 : goal.returns-in-37248
returns-in-37248 c = search taken

pub returns-in-37128 : goal.returns-in-37128
returns-in-37128 c = search taken

pub returns-in-37192 : goal.returns-in-37192
returns-in-37192 c = search taken

pub returns-in-37256 : goal.returns-in-37256
returns-in-37256 c = search taken

pub returns-in_default : goal.returns-in_default
returns-in_default c = c.line_9_f1c0.ensures
