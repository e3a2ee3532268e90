-- The calls on a multiply-accumulate unit alone. One that is not admitted is refused, and then a number that is no accumulator's; a refused
-- call leaves the unit as it was. Document: "Numbered replies".
use Rattle.std.specs.Prelude.{ℕ}
use mathlib.Core.{Bool.Bool, Bool.cond}
use lib.{Dec.ltb}
use Rattle.manual.specs.declared.{Emac.Emac, Reply.Reply, Reply.TheVariants.Done, Reply.TheVariants.NotAdmitted, Reply.TheVariants.OutOfRange, EmacAnswer.EmacAnswer}
use Rattle.manual.specs.{Emac.accumulate, Emac.set_macsr, Emac.set_acc, Emac.clear_acc, Admitted.emac_admitted}

-- a reply and the unit that goes with it
abbrev pub answer : Reply → Emac → EmacAnswer
answer r e = record { reply = r; emac = e }

-- next is the unit after a change
abbrev pub changed : Emac → Emac → EmacAnswer
changed e next = cond (emac_admitted e) (answer Done next) (answer NotAdmitted e)

-- after a change of accumulator i
abbrev pub acc_changed : Emac → ℕ → Emac → EmacAnswer
acc_changed e i next = cond (emac_admitted e) (cond (ltb i 4) (answer Done next) (answer OutOfRange e)) (answer NotAdmitted e)

unfoldable pub accumulate_call : Emac → ℕ → ℕ → Bool → ℕ → ℕ → EmacAnswer
accumulate_call e i s sub x y = acc_changed e i (accumulate e i s sub x y)

unfoldable pub set_macsr_call : Emac → ℕ → EmacAnswer
set_macsr_call e v = changed e (set_macsr e v)

unfoldable pub set_acc_call : Emac → ℕ → ℕ → EmacAnswer
set_acc_call e i v = acc_changed e i (set_acc e i v)

unfoldable pub clear_acc_call : Emac → ℕ → EmacAnswer
clear_acc_call e i = acc_changed e i (clear_acc e i)
