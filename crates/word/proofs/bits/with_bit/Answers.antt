use Rattle.std.proofs.Common.{ℕ, ◌%◌, ◌<◌, arith}
use Rattle.manual.specs.Bits.{bit_of, with_bit}
use Rattle.word.specs.BitLaws.{bit-placed, bit-inside, with_below}
use Rattle.word.proofs.bits.with_bit.Goals as goal

inside : (n : ℕ) → n % 32 < 32
inside n = omega arith

pub overflow_sub-result : goal.overflow_sub-result
overflow_sub-result c =
    let n = c.args.n % 32 in let v = c.args.v in
    rw (c.bit.ensures, c.bit_of.ensures, bit-placed (bit_of n v) n 32 (inside _)) (bit-inside n v)

pub overflow_add-result : goal.overflow_add-result
unfolding with_bit
overflow_add-result c =
    let n = c.args.n % 32 in let v = c.args.v in let b = c.args.b in
    rw (c.bit.ensures, c.bit_of.ensures, c.bit-2.ensures, bit-placed (bit_of n v) n 32 (inside _), bit-placed b n 32 (inside _))
    (record { fits = with_below n v b 32 (inside _) c.ranges.v.fits })

pub returns : goal.returns
unfolding with_bit
returns c =
    let n = c.args.n % 32 in let v = c.args.v in let b = c.args.b in
    rw (c.bit.ensures, c.bit_of.ensures, c.bit-2.ensures, bit-placed (bit_of n v) n 32 (inside _), bit-placed b n 32 (inside _))
