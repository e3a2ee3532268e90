-- Shifts of a long by 0 to 63 places: a multiplication or a floor division by a power of two.
-- The manual: ASL, ASR, LSL, LSR. The carry is the last bit that was shifted out, and 0 where there was none.
use Rattle.std.specs.Prelude.{ℕ, ◌*◌, ◌/◌, ◌%◌, ◌^◌}
use mathlib.Core.{Bool.false, Bool.cond}
use lib.{Dec.eqb, Dec.leb, IntN.◌+ℤ◌, Signed.shr_z}
use Rattle.manual.specs.declared.{Size.TheVariants.Long, Shifted.Shifted}
use Rattle.manual.specs.{Word.signed, Word.mod_z, Flags.codes, Flags.flag_x}

-- LSL and ASL: v times 2^n. The 32 low bits are the result, and bit 32 is the last that went out
unfoldable pub shifted_left : ℕ → ℕ → Shifted
shifted_left v n = record { value = v * 2 ^ n % 2 ^ 32; carry = eqb (v * 2 ^ n / 2 ^ 32 % 2) 1 }

-- LSR: v over 2^n. The last bit that went out is the lowest of twice v over 2^n
unfoldable pub shifted_right : ℕ → ℕ → Shifted
shifted_right v n = record { value = v / 2 ^ n; carry = eqb (v * 2 / 2 ^ n % 2) 1 }

-- ASR: the same of the signed number, rounded down
unfoldable pub signed_shifted_right : ℕ → ℕ → Shifted
signed_shifted_right v n =
    record {
      value = mod_z (shr_z (signed Long v) (2 ^ n)) (2 ^ 32);
      carry = eqb (mod_z (shr_z (signed Long v +ℤ signed Long v) (2 ^ n)) 2) 1;
    }

-- N and Z tell of the result, V is cleared, C is the last bit out and X as C; a shift by none keeps X and clears C
unfoldable pub shift_codes : ℕ → ℕ → Shifted → ℕ
shift_codes sr n s =
    codes (cond (eqb n 0) (flag_x sr) s.carry) (leb 0x8000_0000 s.value) (eqb s.value 0) false
    (cond (eqb n 0) false s.carry)
