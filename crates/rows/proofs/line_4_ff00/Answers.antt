-- `rows::line_4_ff00` meets its contract. Assumes nothing.
use Rattle.rows.proofs.DecodeLaws.{taken, last}
use Rattle.rows.proofs.line_4_ff00.Goals as goal

pub returns-then-w-eq16896 : goal.returns-then-w-eq16896
returns-then-w-eq16896 c = search taken

pub returns-then-w-eq18944 : goal.returns-then-w-eq18944
returns-then-w-eq18944 c = search taken

pub returns-then-w-eq16832 : goal.returns-then-w-eq16832
returns-then-w-eq16832 c = search taken

pub returns : goal.returns
returns c = search last
