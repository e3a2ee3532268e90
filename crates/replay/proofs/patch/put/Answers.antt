-- `replay::patch::put` meets its contract. Assumes nothing.
use Rattle.std.proofs.Common.{refl, arith}
use Rattle.std.proofs.lemmas.Slice.{put_mid-paste}
use borrow.Author.Tests.{lt-ltb, le-ltb}
use Rattle.replay.specs.Patches.{put as put_of}
use Rattle.replay.proofs.patch.put.Goals as goal

pub returns-then-bytes-to : goal.returns-then-bytes-to
unfolding put_of
returns-then-bytes-to c =
    rw (le-ltb _ _ c.if-bytes-to.true) (put_mid-paste c.args.place _ c.args.to.now _ c.args.bytes.now _ c.copy_from_slice.ensures.after (omega arith) refl)

pub returns-else-bytes-to : goal.returns-else-bytes-to
unfolding put_of
returns-else-bytes-to c = rw (lt-ltb _ _ c.if-bytes-to.false)
