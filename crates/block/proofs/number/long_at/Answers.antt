-- `block::number::long_at` meets its contract. Assumes nothing.
use native.Mathlib.Omega.{arith}
use Rattle.memory.specs.MemoryLaws.{value_lt}
use Rattle.block.proofs.number.long_at.Goals as goal

pub overflow_cast-result : goal.overflow_cast-result
overflow_cast-result c =
    let small = value_lt c.args.bytes.now c.args.at 4 (λ j. omega (arith, c.type_inv.bytes j)) in
    record { fits = omega (arith, c.read_number.ensures, small) }
