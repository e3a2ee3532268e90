-- `arith::shift::shifted_right` meets its contract. Assumes nothing.
use mathlib.Core.Path.{refl}
use Prim.Native.Nat.{◌%◌, ◌^◌}
use native.Mathlib.Nat.{div-le_self}
use native.Mathlib.Omega.{arith}
use Rattle.manual.specs.Shift.{shifted_right}
use Rattle.arith.proofs.shift.shifted_right.Goals as goal

pub overflow_cast-result-2 : goal.overflow_cast-result-2
overflow_cast-result-2 c = omega (arith, div-le_self c.args.v (2 ^ (c.args.n % 64)))

pub returns : goal.returns
unfolding shifted_right
returns c = refl
