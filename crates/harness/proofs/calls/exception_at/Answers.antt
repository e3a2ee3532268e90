-- `harness::calls::exception_at` meets its contract. Assumes nothing.
use Rattle.std.proofs.Common.{rules}
use Rattle.manual.specs.declared.Cpu.{Cpu}
use Rattle.std.specs.Prelude.{Some}
use Rattle.manual.specs.Lent.{lent}
use Rattle.manual.specs.Exceptions.{exception}
use Rattle.instructions.specs.HostCalls.{exception_on}
use Rattle.harness.specs.OnBlock.{on_block-is}
use Rattle.harness.proofs.calls.exception_at.Goals as goal

pub returns : goal.returns
unfolding exception_on
returns c = let x = c.args in on_block-is _ _ _ _ _ _ _ c.on_block.ensures (λ (s : Cpu). exception s (lent x.mem.now) x.vector x.pc (Some x.level)) (λ s o h. search rules)
