-- `arith::shift::shifted_left` meets its contract. Assumes nothing.
use Prim.Native.Nat.{◌%◌}
use Rattle.arith.proofs.ShiftLaws.{left_is}
use Rattle.arith.proofs.shift.shifted_left.Goals as goal

pub returns : goal.returns
returns c = left_is c.args.v (c.args.n % 64)
