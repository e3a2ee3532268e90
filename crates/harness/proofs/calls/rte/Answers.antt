-- `harness::calls::rte` meets its contract. Assumes nothing.
use Rattle.std.proofs.Common.{rules}
use Rattle.manual.specs.declared.Cpu.{Cpu}
use Rattle.manual.specs.Lent.{lent}
use Rattle.manual.specs.Exceptions.{rte}
use Rattle.instructions.specs.HostCalls.{rte_on}
use Rattle.harness.specs.OnBlock.{on_block-is}
use Rattle.harness.proofs.calls.rte.Goals as goal

pub returns : goal.returns
unfolding rte_on
returns c = let x = c.args in on_block-is _ _ _ _ _ _ _ c.on_block.ensures (λ (s : Cpu). rte s (lent x.mem.now)) (λ s o h. search rules)
