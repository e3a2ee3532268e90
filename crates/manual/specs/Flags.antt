-- The condition codes: bits 4 to 0 of the status register are X, N, Z, V and C.
-- The manual: "Condition Code Register (CCR)", and "Condition Codes" at each instruction.
use Rattle.std.specs.Prelude.{ℕ, ◌+◌, ◌-◌, ◌*◌, ◌%◌}
use mathlib.Core.{Bool.Bool, Bool.false, Bool.cond, Bool.not, Bool.◌&&◌}
use lib.{Dec.ltb, Dec.leb, Dec.eqb, IntN.pos, IntN.◌+ℤ◌, IntN.◌-ℤ◌}
use Rattle.manual.specs.declared.{Size.Size, Sum.Sum}
use Rattle.manual.specs.{Bits.bit_of, Bits.with_bit, Word.bit, Word.cut, Word.half, Word.numbers, Word.signed, Word.fits}

abbrev pub flag_x : ℕ → Bool
flag_x sr = bit_of 4 sr

abbrev pub flag_n : ℕ → Bool
flag_n sr = bit_of 3 sr

abbrev pub flag_z : ℕ → Bool
flag_z sr = bit_of 2 sr

abbrev pub flag_v : ℕ → Bool
flag_v sr = bit_of 1 sr

abbrev pub flag_c : ℕ → Bool
flag_c sr = bit_of 0 sr

-- the five condition codes as a number
unfoldable pub codes : Bool → Bool → Bool → Bool → Bool → ℕ
codes x n z v c = bit x * 16 + bit n * 8 + bit z * 4 + bit v * 2 + bit c

-- as they are
unfoldable pub kept_codes : ℕ → ℕ
kept_codes sr = sr % 32

-- of a value that is moved or computed bit by bit: N and Z tell of it, V and C are cleared, X is kept
unfoldable pub move_codes : Size → ℕ → ℕ → ℕ
move_codes z v sr = codes (flag_x sr) (leb (half z) (cut z v)) (eqb (cut z v) 0) false false

-- ---- sums and differences. C is the carry out of the size, or the borrow; V is set where the signed result does not fit it

-- s + d + x
unfoldable pub added : Size → ℕ → ℕ → Bool → Sum
added z s d x =
    let total : ℕ = cut z s + cut z d + bit x in
    record {
      value = total % numbers z;
      negative = leb (half z) (total % numbers z);
      zero = eqb (total % numbers z) 0;
      overflow = not (fits z (signed z s +ℤ signed z d +ℤ pos (bit x)));
      carry = leb (numbers z) total;
    }

-- d - s - x
unfoldable pub subtracted : Size → ℕ → ℕ → Bool → Sum
subtracted z s d x =
    let taken : ℕ = cut z s + bit x in
    let value : ℕ = (cut z d + numbers z - taken) % numbers z in
    record {
      value = value;
      negative = leb (half z) value;
      zero = eqb value 0;
      overflow = not (fits z (signed z d -ℤ signed z s -ℤ pos (bit x)));
      carry = ltb (cut z d) taken;
    }

-- ADD or SUB
unfoldable pub sum_or_difference : Bool → Size → ℕ → ℕ → Bool → Sum
sum_or_difference add z s d x = cond add (added z s d x) (subtracted z s d x)

-- all condition codes of a sum or a difference, X as C
unfoldable pub sum_codes : Sum → ℕ
sum_codes r = codes r.carry r.negative r.zero r.overflow r.carry

-- of a comparison: X is kept
unfoldable pub compare_codes : ℕ → Sum → ℕ
compare_codes sr r = codes (flag_x sr) r.negative r.zero r.overflow r.carry

-- of a sum or a difference with X: Z is cleared if the result is nonzero, and kept otherwise
unfoldable pub extended_codes : ℕ → Sum → ℕ
extended_codes sr r = codes r.carry r.negative (r.zero && flag_z sr) r.overflow r.carry

-- of a bit that is tested: Z is set if the bit was clear, and no other code changes
unfoldable pub test_codes : ℕ → Bool → ℕ
test_codes sr clear = with_bit 2 clear (kept_codes sr)
