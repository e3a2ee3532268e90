use Rattle.std.proofs.Common.{arith}
use Rattle.word.specs.WordLaws.{numbers-few}
use Rattle.word.proofs.Sums.{total-below, added_law}
use Rattle.word.proofs.flags.added.Goals as goal

pub wrapped-value-requires : goal.wrapped-value-requires
wrapped-value-requires c =
    let a = c.args in
    omega (arith, c.numbers-n.ensures, c.cut-a.ensures, c.cut-b.ensures, c.bit.ensures, total-below a.z a.s a.d a.x, numbers-few a.z)

pub overflow_cast-result : goal.overflow_cast-result
overflow_cast-result c =
    let a = c.args in
    omega (arith, c.wrapped-value.ensures.1, c.numbers-n.ensures, numbers-few a.z)

pub returns : goal.returns
returns c =
    let a = c.args in
    cc (added_law a.z a.s a.d a.x)
