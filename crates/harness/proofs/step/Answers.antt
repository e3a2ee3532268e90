-- `harness::step` meets its contract. Assumes nothing.
use Rattle.std.proofs.Common.{rules}
use Rattle.manual.specs.declared.Cpu.{Cpu}
use Rattle.manual.specs.Lent.{lent}
use Rattle.instructions.specs.Step.{step}
use Rattle.instructions.specs.HostCalls.{step_on}
use Rattle.harness.specs.OnBlock.{on_block-is}
use Rattle.harness.proofs.step.Goals as goal

pub returns : goal.returns
unfolding step_on
returns c = let x = c.args in on_block-is _ _ _ _ _ _ _ c.on_block.ensures (λ (s : Cpu). step s (lent x.mem.now)) (λ s o h. search rules)
