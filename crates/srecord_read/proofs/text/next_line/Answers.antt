-- `srecord_read::text::next_line` meets its contract. Assumes nothing.
use Rattle.std.proofs.Common.{◌+◌, sym}
use Rattle.srecord_read.proofs.ReadLaws.{no_line, first_line, rest_of}
use Rattle.srecord_read.proofs.text.next_line.Goals as goal

pub returns-in_err-end : goal.returns-in_err-end
returns-in_err-end c = rw c.from_residual.ensures (no_line c.args.text.now c.in_err-end.ensures)

pub returns : goal.returns
returns c = let e = c.in_ok-end in rw (rest_of c.args.text.now (e.end + 1)) (first_line c.args.text.now e.end (sym e.ensures))
