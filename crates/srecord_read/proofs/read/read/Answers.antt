-- `srecord_read::read::read` meets its contract. Assumes nothing.
use Rattle.srecord_read.proofs.ReadLaws.{read_done, read_not}
use Rattle.srecord_read.proofs.read.read.Goals as goal

pub returns-in-Ok : goal.returns-in-Ok
returns-in-Ok c = rw c.store_text.ensures (read_done c.args.text.now c.args.mem.now c.in-Ok.start c.in-Ok.ensures.0)

pub returns-in-Err : goal.returns-in-Err
returns-in-Err c = read_not c.args.text.now c.args.mem.now c.in-Err.reply c.in-Err.ensures.1 c.in-Err.ensures.0
