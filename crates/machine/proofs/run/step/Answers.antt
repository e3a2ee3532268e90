-- `machine::run::step` meets its contract. Assumes nothing.
use mathlib.Core.Path.{sym, ◌∙◌}
use Rattle.rows.specs.TopLaws.{empty_sound}
use Rattle.machine.proofs.StepLaws.{step_is}
use Rattle.machine.proofs.run.step.Goals as goal

pub advanced-end-requires : goal.advanced-end-requires
advanced-end-requires c =
    (rw (← c.first_refusal-first.ensures) (sym c.is_done.ensures ∙ c.if-not-is_done.false), empty_sound)

pub returns : goal.returns
returns c = step_is _ _ _ _ c.advanced-end.ensures
