-- The runs that are left make of the array what all of them make of the first.
use Rattle.std.proofs.Common.{◌≡◌, suc, ◌+◌, ◌-◌, arith, length-drop}
use Rattle.replay.specs.Patches.{runs, next}
use Rattle.replay.proofs.patch.patch.Goals as goal

pub loop-run-preserved : goal.loop-run-preserved
unfolding runs next
loop-run-preserved c =
    let r = c.put_run-place.ensures in
    let n = c.byte-runs.result in
    let i = c.loop-run._run in
    let e : n - i ≡ suc (n - (i + 1)) = omega arith in
    (rw (r.place, r.bytes, r.rest) (rw e at c.loop-run.invariant.0), rw r.rest (simp length-drop (omega arith)))

pub returns-clause-whole : goal.returns-clause-whole
unfolding runs
returns-clause-whole c =
    let e : c.byte-runs.result - c.loop-run._run ≡ 0 = omega arith in
    rw (← c.byte-runs.ensures.value, ← c.byte-runs.ensures.rest) (rw e at c.loop-run.invariant.0)
