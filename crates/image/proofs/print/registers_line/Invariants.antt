-- What was put is the registers passed.
use Rattle.std.proofs.Common.{◌≡◌}
use Rattle.manual.specs.Image.{longs}
use Rattle.image.specs.Texts.{appended}
use Rattle.image.proofs.print.registers_line.Given as goal

abbrev pub invariant-loop-v : goal.invariant-loop-v
invariant-loop-v l = l.text ≡ appended l.initial.text (longs l.registers 0 l.v-index)
