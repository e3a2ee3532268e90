-- `machine::run::run` meets its contract. Assumes nothing.
use mathlib.Core.Path.{sym, ◌∙◌}
use Rattle.instructions.specs.Run.{run as run_of}
use Rattle.rows.specs.TopLaws.{top_sound}
use Rattle.machine.proofs.RunLaws.{run_is}
use Rattle.machine.proofs.run.run.Goals as goal

pub advanced-end-requires : goal.advanced-end-requires
advanced-end-requires c =
    (rw (← c.first_refusal-first.ensures) (sym c.is_done.ensures ∙ c.if-not-is_done.false), rw c.top_rows-top.ensures top_sound)

pub returns : goal.returns
unfolding run_of
returns c =
    rw (← c.first_refusal-first.ensures, ← c.is_done.ensures, c.if-not-is_done.false)
    (run_is _ _ _ _ _ c.advanced-end.ensures)
