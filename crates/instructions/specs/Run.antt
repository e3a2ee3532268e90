-- A run: as many steps as the budget says, or up to one that is refused. The first refusals come first at every budget.
use Rattle.std.specs.Prelude.{ℕ, zero, suc}
use mathlib.Core.{Bool.cond}
use Rattle.manual.specs.declared.{Cpu.Cpu, Ran.Ran, Reply.Reply, Reply.TheVariants.Done}
use Rattle.manual.specs.{Memory.Storage, Reply.Outcome, Reply.is_done, Lent.Lent, Lent.lent_on, Lent.first_refusal}
use Rattle.instructions.specs.{Step.step}

-- a run's answer, and storage after it
pub record RunOutcome : Type 0 where
  pub ran : Ran
  pub storage : Storage

abbrev pub run_outcome : Ran → Storage → RunOutcome
run_outcome r b = record { ran = r; storage = b }

abbrev pub ended : Reply → ℕ → Cpu → Storage → RunOutcome
ended n count s b = run_outcome (record { reply = n; count = count; cpu = s }) b

-- one step more was done before the run r
abbrev pub after_one : RunOutcome → RunOutcome
after_one r = ended r.ran.reply (suc r.ran.count) r.ran.cpu r.storage

-- none are left; or one step, which is refused or followed by the rest
unfoldable pub steps : ℕ → Cpu → Lent → RunOutcome
steps zero s l = ended Done 0 s l.storage
steps (suc left) s l =
    let o : Outcome = step s l in
    cond (is_done o.stepped.reply)
    (after_one (steps left o.stepped.cpu (lent_on l o.storage)))
    (ended o.stepped.reply 0 o.stepped.cpu o.storage)

unfoldable pub run : ℕ → Cpu → Lent → RunOutcome
run budget s l =
    let first : Reply = first_refusal s l in
    cond (is_done first) (steps budget s l) (ended first 0 s l.storage)
