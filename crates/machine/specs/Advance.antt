-- How far a run has come, as its loop counts: the steps that were done before, and the vector that the last of them entered.
-- `RunLaws` shows that this is what the definition's run and step say. Assumes nothing.
use Rattle.std.specs.Prelude.{ℕ, zero, suc, ◌+◌, cond}
use Rattle.manual.specs.declared.Cpu.{Cpu}
use Rattle.manual.specs.declared.Reply.{Reply}
use Rattle.manual.specs.declared.Reply.TheVariants.{Done}
use Rattle.manual.specs.Memory.{Storage}
use Rattle.manual.specs.Reply.{Outcome, is_done}
use Rattle.manual.specs.Lent.{Lent, lent_on}
use Rattle.instructions.specs.Step.{step}
use Rattle.machine.specs.declared.Progress.{Progress}

pub record Advance : Type 0 where
  pub answer : Progress
  pub storage : Storage

abbrev pub advance : Progress → Storage → Advance
advance r b = record { answer = r; storage = b }

abbrev pub ended_as : Reply → ℕ → ℕ → Cpu → Progress
ended_as reply count vector s = record { reply = reply; count = count; vector = vector; cpu = s }

unfoldable pub progress : ℕ → ℕ → ℕ → Cpu → Lent → Advance
progress zero count vector s l = advance (ended_as Done count vector s) l.storage
progress (suc left) count vector s l =
    let o : Outcome = step s l in
    cond (is_done o.stepped.reply)
    (progress left (count + 1) o.stepped.vector o.stepped.cpu (lent_on l o.storage))
    (advance (ended_as o.stepped.reply count 0 o.stepped.cpu) o.storage)
