-- `rows::line_a_ffc0` meets its contract. Assumes nothing.
use Rattle.rows.proofs.DecodeLaws.{past, taken}
use Rattle.rows.proofs.line_a_ffc0.Goals as goal

pub returns-then-w-eq43264 : goal.returns-then-w-eq43264
returns-then-w-eq43264 c = search taken

pub returns-then-w-eq44288 : goal.returns-then-w-eq44288
returns-then-w-eq44288 c = search taken

pub returns-then-w-eq41344 : goal.returns-then-w-eq41344
returns-then-w-eq41344 c = search taken

pub returns-then-w-eq43776 : goal.returns-then-w-eq43776
returns-then-w-eq43776 c = search taken

pub returns-then-w-eq41216 : goal.returns-then-w-eq41216
returns-then-w-eq41216 c = search taken

pub line_a_f1c0-requires : goal.line_a_f1c0-requires
line_a_f1c0-requires c = search past depth 8

pub returns : goal.returns
returns c = c.line_a_f1c0.ensures
