-- `srecord_write::write::put` meets its contract. Assumes nothing.
use Rattle.std.proofs.Common.{refl}
use Rattle.srecord_write.proofs.WriteLaws.{put_whole}
use Rattle.srecord_write.proofs.write.put.Goals as goal

pub returns : goal.returns
returns c = record { put = rw c.copy_from_slice.ensures.after (put_whole c.args.text.now c.args.bytes.now c.args.at c.requires); behind = refl }
