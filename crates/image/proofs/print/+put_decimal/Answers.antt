-- One digit is the number; more are those of a tenth, and the last.
use Rattle.std.proofs.Common.{◌≡◌, ◌%◌, ◌<◌, arith}
use Rattle.image.proofs.PrintLaws.{decimal-one, decimal-more, appended_one, appended_append}
use Rattle.image.proofs.print.+put_decimal.Goals as goal
use Rattle.image.proofs.print.+put_decimal.Goals.{then-v-ge10, else-v-ge10}

pub returns : goal.returns
returns t c =
    elim c.if-v-ge10.branch [
      | then-v-ge10 w ↦ rw (c.put.ensures, c.digit.ensures, w.text-is, w.put_decimal.ensures, decimal-more c.args.v w.if-v-ge10.true (omega arith), appended_append, appended_one)
      | else-v-ge10 w ↦
          let low : c.args.v < 10 = omega arith in
          let same : c.args.v % 10 ≡ c.args.v = omega arith in
          rw (c.put.ensures, c.digit.ensures, w.text-is, same, decimal-one c.args.v low, appended_one)
    ]
