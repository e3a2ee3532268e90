-- `harness::calls::interrupt` meets its contract. Assumes nothing.
use Rattle.std.proofs.Common.{rules}
use Rattle.manual.specs.declared.Cpu.{Cpu}
use Rattle.manual.specs.Lent.{lent}
use Rattle.manual.specs.Exceptions.{interrupt}
use Rattle.instructions.specs.HostCalls.{interrupt_on}
use Rattle.harness.specs.OnBlock.{on_block-is}
use Rattle.harness.proofs.calls.interrupt.Goals as goal

pub returns : goal.returns
unfolding interrupt_on
returns c = let x = c.args in on_block-is _ _ _ _ _ _ _ c.on_block.ensures (λ (s : Cpu). interrupt s (lent x.mem.now) x.vector x.level) (λ s o h. search rules)
