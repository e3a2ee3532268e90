-- `harness::calls::on_block` meets its contract. Assumes nothing.
use Rattle.std.proofs.Common.{refl}
use Rattle.harness.specs.OnBlock.{refused-on, made-on}
use Rattle.harness.proofs.calls.on_block.Goals as goal

pub returns-then-not-is_done : goal.returns-then-not-is_done
returns-then-not-is_done g c =
    refused-on _ _ _ _ c.opened-reply.result c.is_done.result c.opened-reply.ensures c.is_done.ensures _ c.if-not-is_done.true c.number_of.ensures.0

pub returns : goal.returns
returns g c =
    made-on _ _ _ _ c.opened-reply.result c.is_done.result c.opened-reply.ensures c.is_done.ensures c.call-reply.result _ _ refl c.call-reply.ensures
    c.is_done-2.result _ _ c.if-not-is_done.false c.is_done-2.ensures c.store_after.ensures (rw c.number_of-2.ensures.0)
