-- What is left to store, stored, gives what is due.
use Rattle.std.proofs.Common.{◌≡◌, ◌+◌, ◌-◌, ◌*◌}
use Rattle.manual.specs.Block.{registers_at, with_longs}
use Rattle.block.proofs.store.write_registers.Given as goal

abbrev pub invariant-loop-i : goal.invariant-loop-i
invariant-loop-i l = with_longs l.g l.i (16 - l.i) (registers_at + l.i * 4) l.block ≡ with_longs l.g 0 16 registers_at l.initial.block
