use Rattle.std.proofs.Common.{refl}
use Rattle.manual.specs.Address.{operand, control, moved}
use Rattle.quick_parts.specs.Near.{spot_controlled}
use Rattle.quick_parts.proofs.operands.control_spot.Goals as goal

pub returns-in-6 : goal.returns-in-6
unfolding operand control moved
returns-in-6 c = rw c.in-6.is (spot_controlled c.indexed_spot.result _ _ _ _ refl refl (c.indexed_spot.ensures _))

pub returns-in-7 : goal.returns-in-7
returns-in-7 c = rw c.in-7.is (c.absolute_spot.ensures.0 _)
