-- `block::read::registers_at` meets its contract. Assumes nothing.
use Rattle.std.proofs.Common.{rules}
use Rattle.block.proofs.ReadLoops.{longs-on, longs-all}
use Rattle.block.proofs.read.registers_at.Goals as goal

pub loop-i-preserved : goal.loop-i-preserved
loop-i-preserved c =
    let l = c.loop-i in
    (search rules, longs-on l.i c.loop-i-test.true _ l.g _ _ l.invariant.0 c.long_at.ensures l.invariant.1)

pub returns : goal.returns
returns c = let l = c.loop-i in longs-all l.i c.loop-i-test.false _ l.g _ _ l.invariant.0 l.invariant.1
