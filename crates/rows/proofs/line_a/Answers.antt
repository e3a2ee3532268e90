-- `rows::line_a` meets its contract. Assumes nothing.
use Rattle.rows.proofs.DecodeLaws.{past, taken}
use Rattle.rows.proofs.line_a.Goals as goal

pub returns-then-w-eq40960 : goal.returns-then-w-eq40960
returns-then-w-eq40960 c = search taken

pub returns-then-w-eq43456 : goal.returns-then-w-eq43456
returns-then-w-eq43456 c = search taken

pub returns-then-w-eq41232 : goal.returns-then-w-eq41232
returns-then-w-eq41232 c = search taken

pub returns-then-w-eq43392 : goal.returns-then-w-eq43392
returns-then-w-eq43392 c = search taken

pub returns-then-w-eq44416 : goal.returns-then-w-eq44416
returns-then-w-eq44416 c = search taken

pub returns-then-w-eq43904 : goal.returns-then-w-eq43904
returns-then-w-eq43904 c = search taken

pub line_a_ffc0-requires : goal.line_a_ffc0-requires
line_a_ffc0-requires c = search past depth 8

pub returns : goal.returns
returns c = c.line_a_ffc0.ensures
