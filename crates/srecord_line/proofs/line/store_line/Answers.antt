-- `srecord_line::line::store_line` meets its contract. Assumes nothing.
use Rattle.std.proofs.Common.{sym, ◌∙◌, rules}
use Rattle.srecord.specs.Reading.{said as said_of}
use Rattle.srecord_line.proofs.LineLaws.{stored_data, stored_outside, stored_none}
use Rattle.srecord_line.proofs.line.store_line.Goals as goal

pub returns-then-inside : goal.returns-then-inside
returns-then-inside c =
    let b = c.in-Ok-Data in
    c.store.ensures ∙ stored_data (said_of c.args.line.now) c.args.mem.now b.a b.bytes (rw b.field-0-is at b.ensures) (rw c.len.ensures at (sym c.if-inside.ensures))

pub returns-else-inside : goal.returns-else-inside
returns-else-inside c =
    let b = c.in-Ok-Data in
    stored_outside (said_of c.args.line.now) c.args.mem.now b.a b.bytes (rw b.field-0-is at b.ensures) (rw c.len.ensures at (sym c.if-inside.ensures))

pub returns-in_default : goal.returns-in_default
returns-in_default c = stored_none (said_of c.args.line.now) c.args.mem.now c.said.result c.said.ensures (search rules)

pub returns-in_default-2 : goal.returns-in_default-2
returns-in_default-2 c = stored_none (said_of c.args.line.now) c.args.mem.now c.said.result c.said.ensures (search rules)
