-- Quotients and remainders of longs by longs and by words, rounded toward zero; the remainder has the dividend's sign.
-- The manual: DIVS.L, DIVU.L, REMS.L, REMU.L, DIVS.W, DIVU.W. By 0 there is none.
use Rattle.std.specs.Prelude.{ℕ, ◌/◌, ◌%◌, Option, Some, None}
use mathlib.Core.{Bool.true, Bool.false, Bool.cond}
use lib.{Dec.eqb, Dec.ltb, IntN.ℤ, Signed.quot_z, Signed.rem_z}
use Rattle.manual.specs.declared.{Size.Size, Size.TheVariants.Word, Size.TheVariants.Long, Quotient.Quotient}
use Rattle.manual.specs.{Word.numbers, Word.cut, Word.signed, Word.fits, Word.mod_z, Flags.codes, Flags.flag_x, Flags.flag_n}

-- DIVU.L, REMU.L: a over b
unfoldable pub quotient : ℕ → ℕ → Option Quotient
quotient a b = cond (eqb b 0) None (Some (record { quotient = a / b; remainder = a % b }))

-- DIVU.W: the same by a word. A quotient that is no word is an overflow, and there is no result
unfoldable pub word_quotient : ℕ → ℕ → Option Quotient
word_quotient a b = cond (ltb (a / b) (numbers Word)) (quotient a b) None

-- a over b, which is of the size z: a quotient that is no signed number of that size is an overflow, and there is no result
abbrev pub signed_by : Size → ℕ → ℕ → Option Quotient
signed_by z a b =
    let q : ℤ = quot_z (signed Long a) (signed z b) in
    cond (fits z q)
    (Some (record { quotient = mod_z q (numbers z); remainder = mod_z (rem_z (signed Long a) (signed z b)) (numbers z) }))
    None

-- DIVS.L, REMS.L
unfoldable pub signed_quotient : ℕ → ℕ → Option Quotient
signed_quotient a b = cond (eqb b 0) None (signed_by Long a b)

-- DIVS.W
unfoldable pub signed_word_quotient : ℕ → ℕ → Option Quotient
signed_word_quotient a b = cond (eqb (cut Word b) 0) None (signed_by Word a b)

-- 33. An overflow sets V, clears Z and C, and keeps N. The manual: N is cleared
unfoldable pub overflow_codes : ℕ → ℕ
overflow_codes sr = codes (flag_x sr) (flag_n sr) false true false
