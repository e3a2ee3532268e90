use Rattle.std.proofs.Common.{arith}
use Rattle.word.specs.WordLaws.{numbers-few}
use Rattle.word.proofs.Sums.{taken-below, difference_below, subtracted_law}
use Rattle.word.proofs.flags.subtracted.Goals as goal

pub overflow_add-b : goal.overflow_add-b
overflow_add-b c =
    let a = c.args in
    omega (arith, c.numbers-n.ensures, c.cut-a.ensures, c.cut-b.ensures, c.bit.ensures, numbers-few a.z)

pub overflow_sub-b : goal.overflow_sub-b
overflow_sub-b c =
    let a = c.args in
    omega (arith, c.numbers-n.ensures, c.cut-a.ensures, c.cut-b.ensures, c.bit.ensures, taken-below a.z a.s a.d a.x)

pub wrapped-value-requires : goal.wrapped-value-requires
wrapped-value-requires c =
    let a = c.args in
    omega (arith, c.numbers-n.ensures, c.cut-a.ensures, c.cut-b.ensures, c.bit.ensures, taken-below a.z a.s a.d a.x, difference_below a.z a.s a.d a.x, numbers-few a.z)

pub overflow_cast-result : goal.overflow_cast-result
overflow_cast-result c =
    let a = c.args in
    omega (arith, c.wrapped-value.ensures.1, c.numbers-n.ensures, numbers-few a.z)

pub returns : goal.returns
returns c =
    let a = c.args in
    cc (subtracted_law a.z a.s a.d a.x)
