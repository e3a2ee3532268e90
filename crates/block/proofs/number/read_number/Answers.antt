-- `block::number::read_number` meets its contract. Assumes nothing.
use Rattle.std.proofs.Common.{◌+◌, ◌≤◌, ◌<◌, ◌^◌, ℕ, List, get_or, arith}
use Rattle.std.proofs.Math.Nat.{pow-le-pow_right}
use Rattle.manual.specs.Memory.{value_at}
use Rattle.memory.specs.MemoryLaws.{value_lt}
use Rattle.block.proofs.number.read_number.Goals as goal

-- what is read so far leaves room for one more byte
room : (bytes : List ℕ) (at k : ℕ) → k ≤ 7 → ((j : ℕ) → get_or bytes j 0 < 256) → value_at bytes at k < 2 ^ 56
room bytes at k h are =
    let p : 256 ^ k ≤ 256 ^ 7 = pow-le-pow_right (omega arith) {i = k} {j = 7} h in
    omega (arith, value_lt bytes at k are)

pub overflow_mul-v : goal.overflow_mul-v
overflow_mul-v c =
    let l = room c.args.bytes.now c.args.at c.loop-k.k (omega arith) (λ j. omega (arith, c.type_inv.bytes j)) in omega arith

pub overflow_add-v-in-loop-k : goal.overflow_add-v-in-loop-k
overflow_add-v-in-loop-k c =
    let l = room c.args.bytes.now c.args.at c.loop-k.k (omega arith) (λ j. omega (arith, c.type_inv.bytes j)) in
    omega (arith, c.type_inv.bytes (c.args.at + c.loop-k.k))
