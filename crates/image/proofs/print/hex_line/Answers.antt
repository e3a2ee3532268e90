-- `image::print::hex_line` meets its contract. Assumes nothing.
use Rattle.image.proofs.PrintLaws.{appended-line}
use Rattle.image.proofs.print.hex_line.Goals as goal

pub returns : goal.returns
returns c =
    rw (appended-line, ← c.as_bytes.ensures.value, ← c.put_all.ensures, ← c.put_hex.ensures, ← c.put.ensures)
