-- Sums and differences of longs by the highest bits of numbers below 2 ^ 32. Assumes nothing.
use mathlib.Core.Path.{◌≡◌, refl}
use mathlib.Core.Bool.{Bool, true, false, not, ◌&&◌, beq}
use Prim.Native.Nat.{ℕ, ◌+◌, ◌-◌, ◌/◌, ◌%◌, ◌≤◌, ◌<◌}
use native.Mathlib.Omega.{arith}
use lib.Bits.{bit_and, bit_xor, and_shr, xor_shr}
use lib.Dec.{ltb, leb, eqb}
use borrow.Author.Tests.{lt-ltb, le-ltb, le-leb, lt-leb}
use Rattle.manual.specs.declared.Size.TheVariants.{Long}
use Rattle.manual.specs.declared.Sum.{Sum}
use Rattle.manual.specs.Word.{bit, plus, minus}
use Rattle.manual.specs.Flags.{sum_or_difference}
use Rattle.word.specs.TestLaws.{Tested, yes, no, tested, by-lt}
use Rattle.word.specs.WordLaws.{cut_small}
use Rattle.word.proofs.Sums.{added_law, subtracted_law}

abbrev H : ℕ
H = 0x8000_0000

abbrev N : ℕ
N = 0x1_0000_0000

top-by : (v : ℕ) {p : Bool} → Tested H v p → v < N → v / H ≡ bit p
top-by v (yes l) h = omega arith
top-by v (no l) h = omega arith

top : (v : ℕ) → v < N → v / H ≡ bit (leb H v)
top v h = top-by v (tested H v) h

bits_of_sum : (p q t : Bool) → bit_and (bit_xor (bit p) (bit t)) (bit_xor (bit q) (bit t)) ≡ bit (beq p q && not (beq t q))
bits_of_sum true true true = refl
bits_of_sum true true false = refl
bits_of_sum true false true = refl
bits_of_sum true false false = refl
bits_of_sum false true true = refl
bits_of_sum false true false = refl
bits_of_sum false false true = refl
bits_of_sum false false false = refl

bits_of_difference : (p q t : Bool) → bit_and (bit_xor (bit p) (bit q)) (bit_xor (bit t) (bit q)) ≡ bit (not (beq p q) && not (beq t q))
bits_of_difference true true true = refl
bits_of_difference true true false = refl
bits_of_difference true false true = refl
bits_of_difference true false false = refl
bits_of_difference false true true = refl
bits_of_difference false true false = refl
bits_of_difference false false true = refl
bits_of_difference false false false = refl

-- a number below 2 ^ 32 is at least 2 ^ 31 where its highest bit is set
highest : (x : ℕ) (p : Bool) → x / H ≡ bit p → leb H x ≡ p
highest x true h = le-leb H x (omega arith)
highest x false h = lt-leb H x (omega arith)

module _ (s d r : ℕ) (hs : s < N) (hd : d < N) (hr : r < N) where
  sum_overflow : leb H (bit_and (bit_xor s r) (bit_xor d r)) ≡ (beq (leb H s) (leb H d) && not (beq (leb H r) (leb H d)))
  sum_overflow =
      highest (bit_and (bit_xor s r) (bit_xor d r)) _ (rw (and_shr (bit_xor s r) (bit_xor d r) 31, xor_shr s r 31, xor_shr d r 31, top s hs, top d hd, top r hr)
      (bits_of_sum (leb H s) (leb H d) (leb H r)))

  difference_overflow : leb H (bit_and (bit_xor s d) (bit_xor r d)) ≡ (not (beq (leb H s) (leb H d)) && not (beq (leb H r) (leb H d)))
  difference_overflow =
      highest (bit_and (bit_xor s d) (bit_xor r d)) _ (rw (and_shr (bit_xor s d) (bit_xor r d) 31, xor_shr s d 31, xor_shr r d 31, top s hs, top d hd, top r hr)
      (bits_of_difference (leb H s) (leb H d) (leb H r)))

sum_carry : (s d : ℕ) → s < N → d < N → leb N (s + d + 0) ≡ ltb ((s + d) % N) s
sum_carry s d hs hd = by-lt (s + d) N
    (λ l. let a : s + d + 0 < N = omega arith in let b : s ≤ (s + d) % N = omega arith in rw (lt-leb N (s + d + 0) a, le-ltb ((s + d) % N) s b))
    (λ l. let a : N ≤ s + d + 0 = omega arith in let b : (s + d) % N < s = omega arith in rw (le-leb N (s + d + 0) a, lt-ltb ((s + d) % N) s b))

-- the number, the bits that tell of V, and C, of a sum or a difference
abbrev told : ℕ → ℕ → Bool → Sum
told value signs carry = record { value = value; negative = leb H value; zero = eqb value 0; overflow = leb H signs; carry = carry }

module _ (s d : ℕ) (hs : s < N) (hd : d < N) where
  pub long_added : told (plus s d) (bit_and (bit_xor s (plus s d)) (bit_xor d (plus s d))) (ltb (plus s d) s) ≡ sum_or_difference true Long s d false
  unfolding plus sum_or_difference
  long_added =
      let r : (s + d + 0) % N ≡ (s + d) % N = omega arith in
      let l : (s + d) % N < N = omega arith in
      rw (← added_law Long s d false, cut_small Long s hs, cut_small Long d hd, r, sum_carry s d hs hd, sum_overflow s d ((s + d) % N) hs hd l)

  pub long_subtracted : told (minus d s) (bit_and (bit_xor s d) (bit_xor (minus d s) d)) (ltb d s) ≡ sum_or_difference false Long s d false
  unfolding minus sum_or_difference
  long_subtracted =
      let r : (d + N - (s + 0)) % N ≡ (d + (N - s)) % N = omega arith in
      let l : (d + (N - s)) % N < N = omega arith in
      let z : s + 0 ≡ s = omega arith in
      rw (← subtracted_law Long s d false, cut_small Long s hs, cut_small Long d hd, r, z, difference_overflow s d ((d + (N - s)) % N) hs hd l)
