-- `coreimage::run::answer` meets its contract. Assumes nothing.
use Rattle.coreimage.proofs.AnswerLaws.{refused-is, ran-is}
use Rattle.coreimage.proofs.run.answer.Goals as goal

pub returns-in-Ok : goal.returns-in-Ok
returns-in-Ok c = ran-is _ _ _ _ c.in-Ok.loaded c.run-ran.result _ c.in-Ok.ensures c.run-ran.ensures c.run_text.ensures

pub returns-in-Err : goal.returns-in-Err
returns-in-Err c = refused-is _ _ _ c.in-Err.reply _ c.in-Err.ensures c.answer_text.ensures
