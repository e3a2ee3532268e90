-- `rows::line_4_fff0` meets its contract. Assumes nothing.
use Rattle.rows.proofs.DecodeLaws.{past, taken}
use Rattle.rows.proofs.line_4_fff0.Goals as goal

pub returns-then-w-eq20032 : goal.returns-then-w-eq20032
returns-then-w-eq20032 c = search taken

pub line_4_ff00-requires : goal.line_4_ff00-requires
line_4_ff00-requires c = past (past {m = 24} c.requires (tt, c.if-w-eq20032.false)) c.in_default.in_default-own.rest

pub returns-in-20096 : goal.returns-in-20096
returns-in-20096 c = search taken

pub returns-in-20160 : goal.returns-in-20160
returns-in-20160 c = search taken

pub returns-in-16576 : goal.returns-in-16576
returns-in-16576 c = search taken

pub returns-in-17088 : goal.returns-in-17088
returns-in-17088 c = search taken

pub returns-in-17600 : goal.returns-in-17600
returns-in-17600 c = search taken

pub returns-in-18112 : goal.returns-in-18112
returns-in-18112 c = search taken

pub returns-in-18496 : goal.returns-in-18496
returns-in-18496 c = search taken

pub returns-in-18624 : goal.returns-in-18624
returns-in-18624 c = search taken

pub returns-in-19648 : goal.returns-in-19648
returns-in-19648 c = search taken

pub returns-in-19456 : goal.returns-in-19456
returns-in-19456 c = search taken

pub returns-in-19520 : goal.returns-in-19520
returns-in-19520 c = search taken

pub returns-in-19136 : goal.returns-in-19136
returns-in-19136 c = search taken

pub returns-in_default : goal.returns-in_default
returns-in_default c = c.line_4_ff00.ensures
