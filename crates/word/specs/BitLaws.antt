-- A single bit in its number, and the bits in reverse order. Assumes nothing.
use Rattle.std.specs.Prelude.{◌≡◌, ℕ, zero, suc, ◌+◌, ◌-◌, ◌*◌, ◌/◌, ◌%◌, ◌^◌, ◌<◌, ◌≤◌, Bool, true, false, ◌==◌, refl}
use Rattle.std.proofs.Common.{sym, ap, ◌∙◌, zero-add, zero-mul, suc-add, div-one, mul-le-mul_right, pow-suc, one-add, pow_pos, shr_lt, shr-shr, shl_exact, eqb-true}
use Rattle.std.proofs.Math.Nat.{mod-lt}
use native.Mathlib.Omega.{arith}
use Rattle.std.specs.Int.Bits.{block_half, block_odd}
use Rattle.std.proofs.Math.Pow.{pow-add, split}
use Rattle.std.proofs.lemmas.Nat.{mod-pow-add}
use Rattle.std.proofs.lemmas.Bool.{eqb-false}
use Rattle.manual.specs.Word.{bit}
use Rattle.manual.specs.Bits.{bit_of, with_bit, reversed_bits}
use Rattle.word.specs.WordLaws.{bit_below}

-- ---- one bit

pub pow_twice : (n : ℕ) → 2 ^ suc n ≡ 2 ^ n + 2 ^ n
pow_twice n = omega (arith, pow-suc 2 n)

-- a bit at its place is inside the word
pub digit-placed : (d n w : ℕ) → d < 2 → n < w → d * 2 ^ n % 2 ^ w ≡ d * 2 ^ n
digit-placed d n w l h = shl_exact 1 n w l (omega arith)

pub bit-placed : (b : Bool) (n w : ℕ) → n < w → bit b * 2 ^ n % 2 ^ w ≡ bit b * 2 ^ n
bit-placed b n w h = digit-placed (bit b) n w (bit_below b) h

digit-at_most : (d k : ℕ) → d < 2 → d * k ≤ k
digit-at_most zero k h = omega arith
digit-at_most (suc zero) k h = omega arith
digit-at_most (suc (suc d)) k h = omega arith

pub bit-number : (n v : ℕ) → bit (bit_of n v) ≡ v / 2 ^ n % 2
bit-number n v = go (v / 2 ^ n % 2 == 1) refl
  where
    go : (t : Bool) → (v / 2 ^ n % 2 == 1) ≡ t → bit t ≡ v / 2 ^ n % 2
    go true e = sym (eqb-true _ _ e)
    go false e = omega (arith, eqb-false (v / 2 ^ n % 2) 1 e)

module _ (n v : ℕ) where
  -- what stands above a bit, the bit, and what stands below it
  pub bit-parts : v / 2 ^ suc n * 2 ^ suc n + (bit (bit_of n v) * 2 ^ n + v % 2 ^ n) ≡ v
  bit-parts = rw (bit-number n v, ← mod-pow-add v 1 n, one-add n) (split v (suc n))

  -- the setter leaves what stands above the bit and below it
  pub with_parts_lem : (b : Bool) → with_bit n b v ≡ v / 2 ^ suc n * 2 ^ suc n + (bit b * 2 ^ n + v % 2 ^ n)
  unfolding with_bit
  with_parts_lem b = omega (arith, bit-parts)

  pub bit-inside : bit (bit_of n v) * 2 ^ n ≤ v
  bit-inside = omega (arith, bit-parts)

  pub with_same : v ≡ with_bit n (bit_of n v) v
  unfolding with_bit
  with_same = omega (arith, bit-inside)

  -- a number of w bits stays one
  pub with_below : (b : Bool) (w : ℕ) → n < w → v < 2 ^ w → with_bit n b v < 2 ^ w
  unfolding with_bit
  with_below b w h l =
      let k : ℕ = w - suc n in
      let e : k + suc n ≡ w = omega arith in
      let above : suc (v / 2 ^ suc n) * 2 ^ suc n ≤ 2 ^ w = rw (← e, pow-add 2 k (suc n)) (mul-le-mul_right (2 ^ suc n) (shr_lt k (suc n) (rw e l))) in
      omega (arith, above, bit-parts, digit-at_most (bit b) (2 ^ n) (bit_below b), mod-lt v (pow_pos n), pow_twice n)

-- ---- bits in reverse order

pub reversed_below : (n v : ℕ) → reversed_bits n v < 2 ^ n
unfolding reversed_bits
reversed_below zero v = omega arith
reversed_below (suc n) v = omega (arith, digit-at_most (v % 2) (2 ^ n) (omega arith), reversed_below n (v / 2), pow_twice n)

-- only the n low bits count
pub reversed_low : (n a r : ℕ) → reversed_bits n (a * 2 ^ n + r) ≡ reversed_bits n r
unfolding reversed_bits
reversed_low zero a r = refl
reversed_low (suc n) a r = rw (block_odd a n r, block_half a n r, reversed_low n a (r / 2))

pub reversed_mod : (n v : ℕ) → reversed_bits n (v % 2 ^ n) ≡ reversed_bits n v
reversed_mod n v = sym (reversed_low n (v / 2 ^ n) (v % 2 ^ n)) ∙ ap (reversed_bits n) (split v n)

-- the low part goes to the top
pub reversed_add : (m n v : ℕ) → reversed_bits (m + n) v ≡ reversed_bits m v * 2 ^ n + reversed_bits n (v / 2 ^ m)
unfolding reversed_bits
reversed_add zero n v = rw (zero-add n, div-one v, zero-mul (2 ^ n), zero-add (reversed_bits n v))
reversed_add (suc m) n v =
    let above : v / 2 ^ suc m ≡ v / 2 / 2 ^ m = rw (← one-add m, ← shr-shr v 1 m) in
    rw (suc-add m n, above, reversed_add m n (v / 2), pow-add 2 m n) (omega arith)
