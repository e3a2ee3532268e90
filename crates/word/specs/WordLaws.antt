-- Numbers of a size, one law over all sizes, and sums that wrap. Assumes nothing.
use Rattle.std.specs.Prelude.{◌≡◌, ℕ, ◌+◌, ◌-◌, ◌%◌, ◌^◌, ◌<◌, ◌≤◌, Bool, true, false, refl}
use Rattle.std.proofs.Common.{sym, ◌∙◌, mod-lt, mod-eq_of_lt, arith}
use Rattle.std.proofs.Math.Nat.{mod-eq-sub-mod}
use Rattle.manual.specs.declared.Size.{Size}
use Rattle.manual.specs.declared.Size.TheVariants.{Byte, Word, Long}
use Rattle.manual.specs.Word.{bit, cut, half, numbers, plus, minus, sign_extended}
use Rattle.word.specs.SignedLaws.{long_pos, long-neg}
use Rattle.word.specs.TestLaws.{by-lt}

pub halves : (z : Size) → half z + half z ≡ numbers z
halves Byte = refl
halves Word = refl
halves Long = refl

pub numbers-few : (z : Size) → numbers z ≤ 2 ^ 32
numbers-few Byte = omega arith
numbers-few Word = omega arith
numbers-few Long = omega arith

pub some_numbers : (z : Size) → 0 < numbers z
some_numbers Byte = omega arith
some_numbers Word = omega arith
some_numbers Long = omega arith

pub bit_below : (x : Bool) → bit x < 2
bit_below true = omega arith
bit_below false = omega arith

pub cut_below : (z : Size) (v : ℕ) → cut z v < numbers z
unfolding cut
cut_below z v = mod-lt v (some_numbers z)

pub cut_small : (z : Size) (v : ℕ) → v < numbers z → cut z v ≡ v
unfolding cut
cut_small z v h = mod-eq_of_lt h

pub plus-below : (a b : ℕ) → plus a b < 2 ^ 32
unfolding plus
plus-below a b = omega arith

pub minus-below : (a b : ℕ) → minus a b < 2 ^ 32
unfolding minus
minus-below a b = omega arith

-- a remainder by at most one subtraction
pub once : (w n : ℕ) → n ≤ w → w < n + n → w - n ≡ w % n
once w n l h = sym (mod-eq-sub-mod l ∙ mod-eq_of_lt (omega arith))

-- ---- sign extension, by the sign bit

module _ (z : Size) (v : ℕ) where
  pub extended_pos : cut z v < half z → cut z v ≡ sign_extended z v
  unfolding sign_extended
  extended_pos h = long_pos (half z) (cut z v) (omega (arith, halves z, numbers-few z)) h

  pub extended-neg : half z ≤ cut z v → cut z v + (2 ^ 32 - numbers z) ≡ sign_extended z v
  unfolding sign_extended
  extended-neg h =
      rw (← halves z) (long-neg (half z) (cut z v) (omega (arith, halves z, numbers-few z)) h (omega (arith, halves z, cut_below z v)))

-- a long is its own extension
pub extended-long : (v : ℕ) → v < 2 ^ 32 → v ≡ sign_extended Long v
extended-long v h =
    by-lt (cut Long v) (half Long)
    (λ l. omega (arith, cut_small Long v h, extended_pos Long v l))
    (λ l. omega (arith, cut_small Long v h, extended-neg Long v l))
