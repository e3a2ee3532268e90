-- The runs that are left make of the array what all of them make of the first.
use Rattle.std.proofs.Common.{◌≡◌, ◌-◌, ◌≤◌, length}
use Rattle.replay.specs.Patches.{runs}
use Rattle.replay.proofs.patch.patch.Given as goal

abbrev pub invariant-loop-run : goal.invariant-loop-run
invariant-loop-run l =
    (runs (l.runs - l._run) l.file.0.now l.place l.to ≡ runs l.runs l.initial.file.0.now 0 l.initial.to) × (length l.file.0.now ≤ length l.initial.file.0.now)
