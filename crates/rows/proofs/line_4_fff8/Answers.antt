-- `rows::line_4_fff8` meets its contract. Assumes nothing.
use Rattle.rows.proofs.DecodeLaws.{past, taken}
use Rattle.rows.proofs.line_4_fff8.Goals as goal

pub line_4_fff0-requires : goal.line_4_fff0-requires
line_4_fff0-requires c = search past

pub returns-in-18880 : goal.returns-in-18880
returns-in-18880 c = search taken

pub returns-in-20048 : goal.returns-in-20048
returns-in-20048 c = search taken

pub returns-in-20056 : goal.returns-in-20056
returns-in-20056 c = search taken

pub returns-in-20064 : goal.returns-in-20064
returns-in-20064 c = search taken

pub returns-in-20072 : goal.returns-in-20072
returns-in-20072 c = search taken

pub returns-in-17088 : goal.returns-in-17088
returns-in-17088 c = search taken

pub returns-in-18496 : goal.returns-in-18496
returns-in-18496 c = search taken

pub returns-in-18560 : goal.returns-in-18560
returns-in-18560 c = search taken

pub returns-in-18624 : goal.returns-in-18624
returns-in-18624 c = search taken

pub returns-in-19584 : goal.returns-in-19584
returns-in-19584 c = search taken

pub returns-in-16512 : goal.returns-in-16512
returns-in-16512 c = search taken

pub returns-in-17536 : goal.returns-in-17536
returns-in-17536 c = search taken

pub returns-in-18048 : goal.returns-in-18048
returns-in-18048 c = search taken

pub returns-in_default : goal.returns-in_default
returns-in_default c = c.line_4_fff0.ensures
