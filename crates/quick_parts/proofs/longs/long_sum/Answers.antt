use Rattle.std.proofs.Common.{arith}
use Rattle.quick_parts.proofs.LongLaws.{long_added, long_subtracted}
use Rattle.quick_parts.proofs.longs.long_sum.Goals as goal
use Rattle.quick_parts.proofs.longs.long_sum.Goals.{then-add, else-add}

pub returns : goal.returns
returns c =
    let a = c.args in
    elim c.if-add.branch [
      | then-add w ↦ rw (w.value-is, w.plus-sum.ensures, w.if-add.true) (long_added a.s a.d (omega arith) (omega arith))
      | else-add w ↦ rw (w.value-is, w.minus-difference.ensures, w.if-add.false) (long_subtracted a.s a.d (omega arith) (omega arith))
    ]
