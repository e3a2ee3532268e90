-- `rows::line_4` meets its contract. Assumes nothing.
use Rattle.rows.proofs.DecodeLaws.{past, taken}
use Rattle.rows.proofs.line_4.Goals as goal

pub returns-then-w-eq18880 : goal.returns-then-w-eq18880
returns-then-w-eq18880 c = search taken

pub returns-then-w-eq16832 : goal.returns-then-w-eq16832
returns-then-w-eq16832 c = search taken

pub line_4_fff8-requires : goal.line_4_fff8-requires
line_4_fff8-requires c = search past

pub returns-in-20081 : goal.returns-in-20081
returns-in-20081 c = search taken

pub returns-in-20082 : goal.returns-in-20082
returns-in-20082 c = search taken

pub returns-in-20083 : goal.returns-in-20083
returns-in-20083 c = search taken

pub returns-in-20085 : goal.returns-in-20085
returns-in-20085 c = search taken

pub returns-in-20090 : goal.returns-in-20090
returns-in-20090 c = search taken

pub returns-in-20091 : goal.returns-in-20091
returns-in-20091 c = search taken

pub returns-in-19144 : goal.returns-in-19144
returns-in-19144 c = search taken

pub returns-in-19148 : goal.returns-in-19148
returns-in-19148 c = search taken

pub returns-in-19196 : goal.returns-in-19196
returns-in-19196 c = search taken

pub returns-in-16615 : goal.returns-in-16615
returns-in-16615 c = search taken

pub returns-in_default : goal.returns-in_default
returns-in_default c = c.line_4_fff8.ensures
