use Rattle.quick_parts.specs.Near.{at}
use Rattle.quick_parts.proofs.OperandLaws.{spot_loads}
use Rattle.quick_parts.proofs.operands.read_any.Goals as goal

pub returns : goal.returns
returns c =
    let a = c.args in
    c.read_at.ensures _ (spot_loads a.z a.g.now a.mem.now a.pc a.op _ (at _ _ _ c.in_ok-any_spot.was c.any_spot.ensures))
