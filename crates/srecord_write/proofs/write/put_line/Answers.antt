-- `srecord_write::write::put_line` meets its contract. Assumes nothing.
use Rattle.std.proofs.Common.{length, refl}
use Rattle.srecord_write.proofs.WriteLaws.{puts_then, line_split}
use Rattle.srecord_write.proofs.write.put_line.Goals as goal

pub returns : goal.returns
returns c =
    let a = c.args in
    rw (line_split a.kind a.address (length a.bytes.now) a.bytes.now refl, ← c.to_be_bytes-address.ensures, ← c.checksum-sum.ensures)
    (puts_then _ _ _ _ _ _ _ _ c.put-behind_kind.ensures (puts_then _ _ _ _ _ _ _ _ c.put_hex-behind_count.ensures (puts_then _ _ _ _ _ _ _ _ c.put_hex-behind_address.ensures
    (puts_then _ _ _ _ _ _ _ _ c.put_hex-behind_data.ensures (puts_then _ _ _ _ _ _ _ _ c.put_hex-behind_sum.ensures c.put.ensures)))))
