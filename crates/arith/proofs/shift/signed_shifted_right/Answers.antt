-- `arith::shift::signed_shifted_right` meets its contract. Assumes nothing.
use mathlib.Core.Path.{◌∙◌}
use Prim.Native.Nat.{◌-◌, ◌%◌, ◌^◌}
use native.Mathlib.Nat.{div-le_self}
use native.Mathlib.Omega.{arith}
use Rattle.arith.proofs.ShiftLaws.{right_pos, right_neg}
use Rattle.arith.proofs.shift.signed_shifted_right.Goals as goal

pub returns-then-v-lt2147483648 : goal.returns-then-v-lt2147483648
returns-then-v-lt2147483648 c =
    let x = c.args in
    c.shifted_right.ensures ∙ right_pos x.v (x.n % 64) c.if-v-lt2147483648.true

pub overflow_cast-result-2 : goal.overflow_cast-result-2
overflow_cast-result-2 c = let x = c.args in omega (arith, div-le_self (0xFFFF_FFFF - x.v) (2 ^ (x.n % 64)))

pub returns : goal.returns
returns c = right_neg c.args.v (c.args.n % 64) c.if-v-lt2147483648.false c.ranges.v.fits
