use Rattle.std.proofs.Common.{sym}
use Rattle.quick_parts.proofs.OperandLaws.{spot_readable, immediate-long}
use Rattle.quick_parts.proofs.operands.readable.Goals as goal

pub returns : goal.returns
returns c =
    let a = c.args in
    rw (c.in-Long.is, c.plus.ensures, c.no_write.ensures) (immediate-long a.g.now a.mem.now a.pc a.op c.if-op-eq60.true)

pub returns-2 : goal.returns-2
returns-2 c =
    let a = c.args in
    spot_readable a.z a.g.now a.mem.now a.pc a.op c.spot.result (c.spot.ensures a.g.now (sym c.address.ensures))
