-- What was put is the bytes passed.
use Rattle.std.proofs.Common.{sym}
use Rattle.image.proofs.PrintLaws.{appended_none, appended-more}
use Rattle.image.proofs.print.put_all.Goals as goal

pub loop-b-init : goal.loop-b-init
loop-b-init c = sym (appended_none c.args.text.now)

pub loop-b-preserved : goal.loop-b-preserved
loop-b-preserved c =
    let l = c.loop-b in
    rw (appended-more _ c.args.bytes.now l.b-index c.loop-b-test.true, ← l.invariant) c.put.ensures
