-- `coresrecord::run::read_and_run` meets its contract. Assumes nothing.
use Rattle.std.proofs.Common.{rules, sym, ◌∙◌}
use Rattle.coresrecord.proofs.RunLaws.{text-refused, text-ran}
use Rattle.coresrecord.proofs.run.read_and_run.Goals as goal

pub returns-then-not-text_done : goal.returns-then-not-text_done
returns-then-not-text_done c =
    text-refused _ _ _ _ (search rules) c.read-found.result c.read-found.ensures _ (sym c.text_done.ensures ∙ c.if-not-text_done.true) c.refused_text.ensures

pub returns : goal.returns
returns c =
    text-ran _ _ _ _ (search rules) c.read-found.result c.read-found.ensures _ _ _ _ c.run-ran.result (sym c.text_done.ensures ∙ c.if-not-text_done.false)
    c.text_state-cpu.ensures c.long_at.ensures c.run-ran.ensures c.run_text.ensures
