-- `replay::patch::put_run` meets its contract: each call's result is the definition's part. Assumes nothing.
use Rattle.replay.specs.Patches.{next, next_place, put_run}
use Rattle.replay.proofs.RestLaws.{second, after-second}
use Rattle.replay.proofs.patch.put_run.Goals as goal

pub returns-clause-rest : goal.returns-clause-rest
unfolding next
returns-clause-rest c =
    rw (c.bytes.ensures.rest, c.from.ensures, c.byte-n.ensures.value, c.byte-n.ensures.rest, c.byte.ensures.rest, second, after-second)

pub returns-clause-place : goal.returns-clause-place
unfolding next_place
returns-clause-place c =
    rw (c.onward.ensures, c.onward-place.ensures, c.byte.ensures.value, c.byte-n.ensures.value, c.byte.ensures.rest, second)

pub returns-clause-bytes : goal.returns-clause-bytes
unfolding put_run
returns-clause-bytes c =
    rw (c.put.ensures, c.bytes.ensures.value, c.from.ensures, c.byte-n.ensures.value, c.byte-n.ensures.rest, c.onward-place.ensures, c.byte.ensures.value, c.byte.ensures.rest, second, after-second)
