-- The last digit is that of the number, and those before it are those of a sixteenth.
use Rattle.std.proofs.Common.{◌≡◌, suc, ◌-◌, arith}
use Rattle.image.proofs.PrintLaws.{appended_none, appended_one, appended_append, hex-none, hex-more}
use Rattle.image.proofs.print.+put_hex.Goals as goal

pub returns-then-digits-gt0 : goal.returns-then-digits-gt0
returns-then-digits-gt0 t c =
    let e : c.args.digits ≡ suc (c.args.digits - 1) = omega arith in
    rw (hex-more c.args.digits (c.args.digits - 1) c.args.v e, appended_append, appended_one, ← c.put_hex.ensures, ← c.digit.ensures, ← c.put.ensures)

pub returns-else-digits-gt0 : goal.returns-else-digits-gt0
returns-else-digits-gt0 t c =
    let e : c.args.digits ≡ 0 = omega arith in
    rw (e, hex-none, appended_none)
