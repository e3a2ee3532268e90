-- What was put is the bytes passed.
use Rattle.std.proofs.Common.{◌≡◌, take}
use Rattle.image.specs.Texts.{appended}
use Rattle.image.proofs.print.put_all.Given as goal

abbrev pub invariant-loop-b : goal.invariant-loop-b
invariant-loop-b l = l.text ≡ appended l.initial.text (take l.b-index l.bytes)
