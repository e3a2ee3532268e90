-- `harness::run` meets its contract. Assumes nothing.
use Rattle.harness.proofs.RunLaws.{refused-run, ran-is}
use Rattle.harness.proofs.run.Goals as goal

pub returns-then-not-is_done : goal.returns-then-not-is_done
returns-then-not-is_done c =
    refused-run _ _ c.opened-reply.result c.is_done.result c.opened-reply.ensures c.is_done.ensures _ _ c.if-not-is_done.true c.number_of.ensures.0

pub returns : goal.returns
returns c =
    ran-is _ _ c.opened-reply.result c.is_done.result c.opened-reply.ensures c.is_done.ensures _ c.run-reply.result _ _ c.number_of-2.result
    c.if-not-is_done.false c.run-reply.ensures c.store_after.ensures c.number_of-2.ensures.0
