-- The registers that are read, and then those that are left.
use Rattle.std.proofs.Common.{◌≡◌, ◌+◌, ◌-◌, ◌*◌, ◌++◌, take, length}
use Rattle.manual.specs.Block.{registers_at, longs_at}
use Rattle.block.proofs.read.registers_at.Given as goal

abbrev pub invariant-loop-i : goal.invariant-loop-i
invariant-loop-i l = (length l.g ≡ 16) × (take l.i l.g ++ longs_at l.block (16 - l.i) (registers_at + l.i * 4) ≡ longs_at l.block 16 registers_at)
