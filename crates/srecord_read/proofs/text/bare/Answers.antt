-- `srecord_read::text::bare` meets its contract. Assumes nothing.
use Rattle.std.proofs.Common.{rules}
use Rattle.srecord_read.proofs.ReadLaws.{bare_none, bare_front, bare_whole}
use Rattle.srecord_read.proofs.text.bare.Goals as goal

pub returns-in-13 : goal.returns-in-13
returns-in-13 c = bare_front c.args.line.now c.in-13.len_at_least (search rules)

pub returns-in_default : goal.returns-in_default
returns-in_default c = bare_none c.args.line.now c.in_default.len_below

pub returns-in_default-2 : goal.returns-in_default-2
returns-in_default-2 c = bare_whole c.args.line.now c.in_default.len_at_least (search rules)
