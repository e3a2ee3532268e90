-- Sums and differences of a size: the sign bits tell that the signed result does not fit. `out-half` turns the whole numbers into
-- raised ones, and the sign bits are those of three tests on natural numbers. Assumes nothing.
use Rattle.std.proofs.Common.{◌≡◌, ℕ, ◌+◌, ◌-◌, ◌%◌, ◌<◌, ◌≤◌, Bool, cond, not, ◌&&◌, ◌||◌, eqb, ltb, leb, pos, ◌+ℤ◌, ◌-ℤ◌, sym, ap, ◌∙◌, mod-eq_of_lt, arith, le-ltb, lt-ltb, le-leb}
use mathlib.Core.Bool.{beq}
use borrow.Author.Tests.{lt-leb}
use Rattle.manual.specs.declared.Size.{Size}
use Rattle.manual.specs.declared.Sum.{Sum}
use Rattle.manual.specs.Word.{bit, cut, half, numbers, signed_at, in_half}
use Rattle.manual.specs.Flags.{added, subtracted}
use Rattle.word.specs.TestLaws.{Tested, yes, no, tested}
use Rattle.word.specs.RaisedLaws.{Up, plus-both, plus_nat, minus-to, minus_nat, signed_up, out-half}
use Rattle.word.specs.WordLaws.{halves, cut_below, bit_below, once}

-- the number of a pattern, raised by h
abbrev raised : ℕ → ℕ → ℕ
raised h a = cond (leb h a) (a - h) (a + h)

raised-low : (h a : ℕ) → a < h → raised h a ≡ a + h
raised-low h a l = rw (lt-leb h a l)

raised-high : (h a : ℕ) → h ≤ a → raised h a ≡ a - h
raised-high h a l = rw (le-leb h a l)

raised_below : (h a : ℕ) {t : Bool} → Tested h a t → a < h + h → cond t (a - h) (a + h) < h + h
raised_below h a (yes l) k = omega arith
raised_below h a (no l) k = omega arith

raised-up : (h a : ℕ) → a < h + h → Up h (signed_at h a) (raised h a)
raised-up h a k = signed_up h h a (raised h a) (λ l. omega (arith, raised-low h a l)) (λ l. omega (arith, raised-high h a l)) k

module _ (h a b x : ℕ) (ha : a < h + h) (hb : b < h + h) (hx : x < 2) where
  sum_out :
      not (in_half h (signed_at h a +ℤ signed_at h b +ℤ pos x))
      ≡ (ltb (raised h a + raised h b + x) (h + h - h) || leb (h + h + h) (raised h a + raised h b + x))
  sum_out =
      out-half (h + h) h (signed_at h a +ℤ signed_at h b +ℤ pos x) (raised h a + raised h b + x) (omega arith)
      (plus_nat (h + h) (signed_at h a +ℤ signed_at h b) (raised h a + raised h b) x
      (plus-both h h (signed_at h a) (signed_at h b) (raised h a) (raised h b) (raised-up h a ha) (raised-up h b hb)))

  difference-out :
      not (in_half h (signed_at h b -ℤ signed_at h a -ℤ pos x))
      ≡ (ltb (raised h b + (h + h) - raised h a - x) (h + h - h) || leb (h + h + h) (raised h b + (h + h) - raised h a - x))
  difference-out =
      let k : raised h a < h + h = raised_below h a (tested h a) ha in
      out-half (h + h) h (signed_at h b -ℤ signed_at h a -ℤ pos x) (raised h b + (h + h) - raised h a - x) (omega arith)
      (minus_nat (h + h) (signed_at h b -ℤ signed_at h a) (raised h b + (h + h) - raised h a) x
      (minus-to h (h + h) (signed_at h b) (signed_at h a) (raised h b) (raised h a) (raised-up h b hb) (raised-up h a ha) (omega arith))
      (omega arith))

-- the same test by the sign bits p of a, q of b and t of the result r
module _ (h n a b x r : ℕ) (hn : h + h ≡ n) (ha : a < n) (hb : b < n) (hx : x < 2) where
  sum_sign :
      {p q t : Bool}
      → Tested h a p
      → Tested h b q
      → Tested h r t
      → (a + b + x < n → r ≡ a + b + x)
      → (n ≤ a + b + x → r + n ≡ a + b + x)
      → (beq p q && not (beq t q))
      ≡ (ltb (cond p (a - h) (a + h) + cond q (b - h) (b + h) + x) (h + h - h)
      || leb (h + h + h) (cond p (a - h) (a + h) + cond q (b - h) (b + h) + x))
  sum_sign (yes u) (yes v) (yes w) low high =
      let e : r + n ≡ a + b + x = high (omega arith) in
      sym (rw (le-ltb (a - h + (b - h) + x) (h + h - h) (omega arith), lt-leb (h + h + h) (a - h + (b - h) + x) (omega arith)))
  sum_sign (yes u) (yes v) (no w) low high =
      let e : r + n ≡ a + b + x = high (omega arith) in
      sym (rw (lt-ltb (a - h + (b - h) + x) (h + h - h) (omega arith)))
  sum_sign (yes u) (no v) t low high =
      sym (rw (le-ltb (a - h + (b + h) + x) (h + h - h) (omega arith), lt-leb (h + h + h) (a - h + (b + h) + x) (omega arith)))
  sum_sign (no u) (yes v) t low high =
      sym (rw (le-ltb (a + h + (b - h) + x) (h + h - h) (omega arith), lt-leb (h + h + h) (a + h + (b - h) + x) (omega arith)))
  sum_sign (no u) (no v) (yes w) low high =
      let e : r ≡ a + b + x = low (omega arith) in
      sym (rw (le-ltb (a + h + (b + h) + x) (h + h - h) (omega arith), le-leb (h + h + h) (a + h + (b + h) + x) (omega arith)))
  sum_sign (no u) (no v) (no w) low high =
      let e : r ≡ a + b + x = low (omega arith) in
      sym (rw (le-ltb (a + h + (b + h) + x) (h + h - h) (omega arith), lt-leb (h + h + h) (a + h + (b + h) + x) (omega arith)))

  difference_sign :
      {p q t : Bool}
      → Tested h a p
      → Tested h b q
      → Tested h r t
      → (b + n - (a + x) < n → r ≡ b + n - (a + x))
      → (n ≤ b + n - (a + x) → r + n ≡ b + n - (a + x))
      → (not (beq p q) && not (beq t q))
      ≡ (ltb (cond q (b - h) (b + h) + (h + h) - cond p (a - h) (a + h) - x) (h + h - h)
      || leb (h + h + h) (cond q (b - h) (b + h) + (h + h) - cond p (a - h) (a + h) - x))
  difference_sign (yes u) (yes v) t low high =
      sym (rw (le-ltb (b - h + (h + h) - (a - h) - x) (h + h - h) (omega arith), lt-leb (h + h + h) (b - h + (h + h) - (a - h) - x) (omega arith)))
  difference_sign (no u) (no v) t low high =
      sym (rw (le-ltb (b + h + (h + h) - (a + h) - x) (h + h - h) (omega arith), lt-leb (h + h + h) (b + h + (h + h) - (a + h) - x) (omega arith)))
  difference_sign (yes u) (no v) (yes w) low high =
      let e : r ≡ b + n - (a + x) = low (omega arith) in
      sym (rw (le-ltb (b + h + (h + h) - (a - h) - x) (h + h - h) (omega arith), le-leb (h + h + h) (b + h + (h + h) - (a - h) - x) (omega arith)))
  difference_sign (yes u) (no v) (no w) low high =
      let e : r ≡ b + n - (a + x) = low (omega arith) in
      sym (rw (le-ltb (b + h + (h + h) - (a - h) - x) (h + h - h) (omega arith), lt-leb (h + h + h) (b + h + (h + h) - (a - h) - x) (omega arith)))
  difference_sign (no u) (yes v) (yes w) low high =
      let e : r + n ≡ b + n - (a + x) = high (omega arith) in
      sym (rw (le-ltb (b - h + (h + h) - (a + h) - x) (h + h - h) (omega arith), lt-leb (h + h + h) (b - h + (h + h) - (a + h) - x) (omega arith)))
  difference_sign (no u) (yes v) (no w) low high =
      let e : r + n ≡ b + n - (a + x) = high (omega arith) in
      sym (rw (lt-ltb (b - h + (h + h) - (a + h) - x) (h + h - h) (omega arith)))

low : (w n : ℕ) → w < n → w % n ≡ w
low w n h = mod-eq_of_lt h

high : (w n : ℕ) → w < n + n → n ≤ w → w % n + n ≡ w
high w n h l = let e : w - n ≡ w % n = once w n l h in omega arith

-- what the code computes is what the definition says, at each size
module _ (z : Size) (s d : ℕ) (x : Bool) where
  abbrev a : ℕ
  a = cut z s

  abbrev b : ℕ
  b = cut z d

  abbrev total : ℕ
  total = a + b + bit x

  abbrev difference : ℕ
  difference = b + numbers z - (a + bit x)

  pub total-below : total < numbers z + numbers z
  total-below = omega (arith, cut_below z s, cut_below z d, bit_below x)

  pub taken-below : a + bit x ≤ b + numbers z
  taken-below = omega (arith, cut_below z s, bit_below x)

  pub difference_below : difference < numbers z + numbers z
  difference_below = omega (arith, cut_below z d)

  a-below : a < half z + half z
  a-below = omega (arith, halves z, cut_below z s)

  b-below : b < half z + half z
  b-below = omega (arith, halves z, cut_below z d)

  abbrev with_overflow : ℕ → Bool → Bool → Sum
  with_overflow r v c = record { value = r; negative = leb (half z) r; zero = eqb r 0; overflow = v; carry = c }

  abbrev pub signs : Bool
  signs = beq (leb (half z) a) (leb (half z) b)

  abbrev pub turned : ℕ → Bool
  turned r = beq (leb (half z) r) (leb (half z) b)

  pub added_law : with_overflow (total % numbers z) (signs && not (turned (total % numbers z))) (leb (numbers z) total) ≡ added z s d x
  unfolding added
  added_law =
      ap (λ (v : Bool). with_overflow (total % numbers z) v (leb (numbers z) total))
      (sum_sign (half z) (numbers z) a b (bit x) (total % numbers z) (halves z) (cut_below z s) (cut_below z d) (bit_below x)
      (tested (half z) a) (tested (half z) b) (tested (half z) (total % numbers z))
      (low total (numbers z)) (high total (numbers z) total-below)
      ∙ sym (sum_out (half z) a b (bit x) a-below b-below (bit_below x)))

  pub subtracted_law :
      with_overflow (difference % numbers z) (not signs && not (turned (difference % numbers z))) (ltb b (a + bit x)) ≡ subtracted z s d x
  unfolding subtracted
  subtracted_law =
      ap (λ (v : Bool). with_overflow (difference % numbers z) v (ltb b (a + bit x)))
      (difference_sign (half z) (numbers z) a b (bit x) (difference % numbers z) (halves z) (cut_below z s) (cut_below z d) (bit_below x)
      (tested (half z) a) (tested (half z) b) (tested (half z) (difference % numbers z))
      (low difference (numbers z)) (high difference (numbers z) difference_below)
      ∙ sym (difference-out (half z) a b (bit x) a-below b-below (bit_below x)))
