-- `coresrecord::run::answer` meets its contract. Assumes nothing.
use Rattle.std.proofs.Common.{arith}
use Rattle.coresrecord.proofs.RunLaws.{input-short, input-long, input-refused, input-taken}
use Rattle.coresrecord.proofs.run.answer.Goals as goal

pub returns-in_default : goal.returns-in_default
returns-in_default c = input-short _ _ _ c.in_default.ensures.cases c.answer_text.ensures

pub returns-then-text-gt-TEXT_MOST : goal.returns-then-text-gt-TEXT_MOST
returns-then-text-gt-TEXT_MOST c =
    let p = c.in-Some.ensures.cases in
    input-long _ _ (omega (arith, p.2)) _ (omega (arith, p.2)) c.answer_text-then-text-gt-TEXT_MOST.ensures

pub returns-then-not-admitted : goal.returns-then-not-admitted
returns-then-not-admitted c =
    let p = c.in-Some.ensures.cases in
    input-refused _ _ (omega (arith, p.2)) (omega (arith, p.2)) _ (rw (← p.0, ← c.text_state.ensures, ← c.admitted.ensures) c.if-not-admitted.true) c.answer_text-then-not-admitted.ensures

pub returns : goal.returns
returns c =
    let p = c.in-Some.ensures.cases in
    input-taken _ _ (omega (arith, p.2)) (omega (arith, p.2)) _ (rw (← p.0, ← c.text_state.ensures, ← c.admitted.ensures) c.if-not-admitted.false) (rw (← p.0, ← p.1) c.read_and_run.ensures)
