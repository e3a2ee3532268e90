-- As many records are counted as were passed, and what is left of the file grows no longer.
use Rattle.std.proofs.Common.{◌≡◌, ◌≤◌, length}
use Rattle.replay.proofs.replay.Given as goal

abbrev pub invariant-loop-record : goal.invariant-loop-record
invariant-loop-record l =
    (length l.file.0.now ≤ length l.initial.file.0.now) × (l.t.agree ≤ l.t.records) × (l.t.records ≡ l._record)
