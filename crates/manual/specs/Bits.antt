-- Single bits and their order: the one test of a bit and the one setter. The manual: BTST, BCHG, BCLR, BSET, BITREV, BYTEREV; AND, OR, EOR.
use Rattle.std.specs.Prelude.{ℕ, zero, suc, ◌+◌, ◌-◌, ◌*◌, ◌/◌, ◌%◌, ◌^◌}
use mathlib.Core.{Bool.Bool, Bool.true, Bool.false, Bool.not, List.[], List.◌∷◌}
use lib.{Dec.eqb, ListN.get_or, Bits.bit_and, Bits.bit_or, Bits.bit_xor}
use Rattle.manual.specs.declared.{Logic.Logic, Logic.TheVariants.And, Logic.TheVariants.Or, Logic.TheVariants.Eor}
use Rattle.manual.specs.{Word.bit}

unfoldable pub logic : Logic → ℕ → ℕ → ℕ
logic And a b = bit_and a b
logic Or a b = bit_or a b
logic Eor a b = bit_xor a b

-- bit n of v
abbrev pub bit_of : ℕ → ℕ → Bool
bit_of n v = eqb (v / 2 ^ n % 2) 1

-- v with bit n as told
unfoldable pub with_bit : ℕ → Bool → ℕ → ℕ
with_bit n b v = v - bit (bit_of n v) * 2 ^ n + bit b * 2 ^ n

-- what an operation, by number, makes of bit n
unfoldable pub changed_bit : ℕ → ℕ → ℕ → ℕ
changed_bit operator n v =
    with_bit n
    (get_or
    (bit_of n v ∷  -- 0 BTST
    not (bit_of n v) ∷  -- 1 BCHG
    false ∷  -- 2 BCLR
    true ∷  -- 3 BSET
    [])
    operator false)
    v

-- the n low bits in reverse order: the lowest becomes the highest
unfoldable pub reversed_bits : ℕ → ℕ → ℕ
reversed_bits zero v = 0
reversed_bits (suc n) v = v % 2 * 2 ^ n + reversed_bits n (v / 2)

-- the four bytes of a long in reverse order
unfoldable pub reversed_bytes : ℕ → ℕ
reversed_bytes v = v % 0x100 * 0x100_0000 + v / 0x100 % 0x100 * 0x1_0000 + v / 0x1_0000 % 0x100 * 0x100 + v / 0x100_0000
