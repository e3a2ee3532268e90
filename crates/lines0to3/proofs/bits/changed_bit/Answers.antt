use mathlib.Core.Path.{◌≡◌}
use Prim.Native.Nat.{◌%◌}
use native.Mathlib.Omega.{arith}
use Rattle.manual.specs.Bits.{changed_bit}
use Rattle.word.specs.TestLaws.{past}
use Rattle.word.specs.BitLaws.{with_same}
use Rattle.lines0to3.proofs.bits.changed_bit.Goals as goal

pub returns-in-0 : goal.returns-in-0
unfolding changed_bit
returns-in-0 c = rw c.in-0.is (with_same (c.args.n % 32) c.args.v)

pub returns-in-1 : goal.returns-in-1
unfolding changed_bit
returns-in-1 c = rw (c.in-1.is, ← c.bit_of.ensures, ← c.with_bit.ensures)

pub returns-in-2 : goal.returns-in-2
unfolding changed_bit
returns-in-2 c = rw (c.in-2.is, ← c.with_bit-in-2.ensures)

pub returns-in_default : goal.returns-in_default
unfolding changed_bit
returns-in_default c =
    let e : c.args.kind % 4 ≡ 3 = omega (arith, past 3 _ c.in_default.in_default-own.rest) in
    rw (e, ← c.with_bit-in_default.ensures)
