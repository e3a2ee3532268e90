-- `srecord_write::write::write` meets its contract. Assumes nothing.
use Rattle.std.proofs.Common.{ap, ◌∙◌}
use Rattle.srecord.specs.Writing.{text_of}
use Rattle.srecord_write.proofs.WriteLaws.{by_room, write_by_room, put_range}
use Rattle.srecord_write.proofs.write.write.Goals as goal

pub returns-in-Ok : goal.returns-in-Ok
returns-in-Ok c =
    let a = c.args in
    let t = text_of a.mem.now a.from a.count a.start in
    rw (c.put_text.ensures, put_range a.mem.now a.text.now a.from a.count a.start c.in-Ok.length c.in-Ok.ensures)
    (ap (λ r. by_room r t a.text.now) c.in-Ok.ensures ∙ write_by_room a.mem.now a.from a.count a.start a.text.now)

pub returns-in-Err : goal.returns-in-Err
returns-in-Err c =
    let a = c.args in
    let t = text_of a.mem.now a.from a.count a.start in
    ap (λ r. by_room r t a.text.now) c.in-Err.ensures ∙ write_by_room a.mem.now a.from a.count a.start a.text.now
