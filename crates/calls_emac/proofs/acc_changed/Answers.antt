-- `calls_emac::acc_changed` meets its contract. Assumes nothing.
use Rattle.std.proofs.Common.{arith}
use Rattle.std.proofs.lemmas.Grind.{common_steps}
use Rattle.calls_emac.proofs.acc_changed.Goals as goal

pub returns-in-Ok : goal.returns-in-Ok
returns-in-Ok g c = λ v h. grind (arith, common_steps, c.on_acc.ensures v h)

pub returns-in-Err : goal.returns-in-Err
returns-in-Err g c = λ v h. grind (arith, common_steps, c.on_acc.ensures v h)
