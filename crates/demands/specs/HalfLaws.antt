-- That the product of two halves is exact. Assumes nothing.
use Prim.Native.Nat.{ℕ, zero, suc, ◌+◌, ◌-◌, ◌*◌, ◌/◌, ◌%◌, ◌^◌, ◌≤◌, ◌<◌}
use Rattle.std.specs.Prelude.{◌≡◌, Bool, eqb, ℤ, neg_ℤ, nat_abs, ◌*ℤ◌}
use Rattle.std.proofs.Math.Path.{refl, sym, ap}
use Rattle.std.proofs.Common.{◌∙◌, le_of_lt, mul-le-mul, mul_comm, mul_assoc, mod-eq_of_lt, arith, lt-ltb, eq-eqb}
use Rattle.std.proofs.Math.Bool.{true, false}
use Rattle.std.proofs.Math.IntN.{pos, negsuc, neg_ℤ-neg_ℤ, *ℤ-zero, *ℤ-negsuc, *ℤ_comm}
use Rattle.std.specs.Int.Signed.{shr_z}
use Rattle.manual.specs.declared.Size.TheVariants.{Word, Long}
use Rattle.manual.specs.declared.Mode.{Mode}
use Rattle.manual.specs.declared.Action.TheVariants.{Accumulate}
use Rattle.manual.specs.Word.{cut, signed, signed_at, sign_extended, mod_z, in_half}
use Rattle.manual.specs.Emac.{mode_of, half_of, word_operand, rounded, product_of, product_over, accumulate}
use Rattle.instructions.specs.LineA.{operand, accumulating}
use Rattle.word.specs.SignedLaws.{signed_pos, signed-neg}
use Rattle.word.specs.TestLaws.{by-lt}
use Rattle.demands.specs.WordOperands.{product_of_halves, WordProducts}

-- ---- products and signs

neg_right : (x y : ℤ) → x *ℤ neg_ℤ y ≡ neg_ℤ (x *ℤ y)
neg_right x (pos zero) = rw (*ℤ-zero x)
neg_right x (pos (suc n)) = *ℤ-negsuc x n
neg_right x (negsuc n) = rw (*ℤ-negsuc x n, neg_ℤ-neg_ℤ (x *ℤ pos (suc n)))

neg_left : (x y : ℤ) → neg_ℤ x *ℤ y ≡ neg_ℤ (x *ℤ y)
neg_left x y = *ℤ_comm (neg_ℤ x) y ∙ neg_right y x ∙ ap neg_ℤ (*ℤ_comm y x)

below_zero : (q r : ℕ) → q ≡ suc r → neg_ℤ (pos q) ≡ negsuc r
below_zero q r e = ap (λ n. neg_ℤ (pos n)) e

abs_neg : (x : ℤ) → nat_abs (neg_ℤ x) ≡ nat_abs x
abs_neg (pos zero) = refl
abs_neg (pos (suc n)) = refl
abs_neg (negsuc n) = refl

abs_product : (x y : ℤ) → nat_abs (x *ℤ y) ≡ nat_abs x * nat_abs y
abs_product (pos m) (pos n) = refl
abs_product (pos m) (negsuc n) = abs_neg (pos (m * suc n))
abs_product (negsuc m) (pos n) = abs_neg (pos (suc m * n))
abs_product (negsuc m) (negsuc n) = refl

-- numbers scaled by m and by n
module _ (m n : ℕ) where
  middle : (a b : ℕ) → a * m * (b * n) ≡ a * b * (m * n)
  middle a b = mul_assoc a m (b * n) ∙ ap (a *◌) (sym (mul_assoc m b n) ∙ ap (◌* n) (mul_comm m b) ∙ mul_assoc b m n) ∙ sym (mul_assoc a b (m * n))

  scaled_right : (a : ℕ) (y : ℤ) → (pos a *ℤ pos m) *ℤ (y *ℤ pos n) ≡ (pos a *ℤ y) *ℤ pos (m * n)
  scaled_right a (pos b) = ap pos (middle a b)
  scaled_right a (negsuc b) =
      neg_right (pos a *ℤ pos m) (pos (suc b) *ℤ pos n) ∙ ap neg_ℤ (ap pos (middle a (suc b))) ∙ sym (neg_left (pos a *ℤ pos (suc b)) (pos (m * n)))

  scaled-both : (x y : ℤ) → (x *ℤ pos m) *ℤ (y *ℤ pos n) ≡ (x *ℤ y) *ℤ pos (m * n)
  scaled-both (pos a) y = scaled_right a y
  scaled-both (negsuc a) y =
      neg_left (pos (suc a) *ℤ pos m) (y *ℤ pos n) ∙ ap neg_ℤ (scaled_right (suc a) y) ∙ sym (neg_left (pos (suc a) *ℤ y) (pos (m * n)))
      ∙ ap (◌*ℤ pos (m * n)) (sym (neg_left (pos (suc a)) y))

-- ---- a half

half-below : (upper : Bool) (v : ℕ) → half_of upper v < 2 ^ 16
half-below true v = omega arith
half-below false v = omega arith

module _ (h : ℕ) (small : h < 2 ^ 16) where
  -- of 16 bits, extended by its sign to 32, and with 16 zeros below it
  extended : signed Long (sign_extended Word h) ≡ signed_at (2 ^ 15) h
  unfolding sign_extended cut
  extended = by-lt h (2 ^ 15)
      (λ l. rw (mod-eq_of_lt small, signed_pos (2 ^ 15) h l) (signed_pos (2 ^ 31) _ (omega arith) ∙ ap pos (omega arith)))
      (λ l. rw (mod-eq_of_lt small, signed-neg (2 ^ 15) h l) (signed-neg (2 ^ 31) _ (omega arith) ∙ ap negsuc (omega arith)))

  shifted : signed Long (h * 2 ^ 16) ≡ signed_at (2 ^ 15) h *ℤ pos (2 ^ 16)
  unfolding cut
  shifted = by-lt h (2 ^ 15)
      (λ l. rw (signed_pos (2 ^ 15) h l) (signed_pos (2 ^ 31) _ (omega arith) ∙ ap pos (omega arith)))
      (λ l. rw (signed-neg (2 ^ 15) h l) (signed-neg (2 ^ 31) _ (omega arith) ∙ sym (below_zero (suc (2 ^ 16 - suc h) * 2 ^ 16) _ (omega arith))))

  within : nat_abs (signed_at (2 ^ 15) h) ≤ 2 ^ 15
  within = by-lt h (2 ^ 15) (λ l. rw (signed_pos (2 ^ 15) h l) (omega arith)) (λ l. rw (signed-neg (2 ^ 15) h l) (omega arith))

-- ---- a product of halves

-- a product of fractions ends in 32 zeros, and 23 of them are cut off
not-rounded : (rt : Bool) (z : ℤ) → rounded rt (z *ℤ pos (2 ^ 32)) (2 ^ 23) ≡ z *ℤ pos (2 ^ 9)
not-rounded rt z = by rt (zeros z) ∙ cut_off z
  where
    zeros : (z : ℤ) → mod_z (z *ℤ pos (2 ^ 32)) (2 ^ 23) ≡ 0
    zeros (pos n) = omega arith
    zeros (negsuc n) = rw (below_zero (suc n * 2 ^ 32) (n * 2 ^ 32 + (2 ^ 32 - 1)) (omega arith)) (omega arith)

    cut_off : (z : ℤ) → shr_z (z *ℤ pos (2 ^ 32)) (2 ^ 23) ≡ z *ℤ pos (2 ^ 9)
    cut_off (pos n) = ap pos (omega arith)
    cut_off (negsuc n) =
        rw (below_zero (suc n * 2 ^ 32) (n * 2 ^ 32 + (2 ^ 32 - 1)) (omega arith), below_zero (suc n * 2 ^ 9) (n * 2 ^ 9 + (2 ^ 9 - 1)) (omega arith))
        (ap negsuc (omega arith))

    by : (rt : Bool) → mod_z (z *ℤ pos (2 ^ 32)) (2 ^ 23) ≡ 0 → rounded rt (z *ℤ pos (2 ^ 32)) (2 ^ 23) ≡ shr_z (z *ℤ pos (2 ^ 32)) (2 ^ 23)
    by true e = rw e
    by false e = refl

-- a number of 31 bits is one of 40
in_40 : (z : ℤ) → nat_abs z ≤ 2 ^ 30 → in_half (2 ^ 39) z ≡ true
in_40 (pos n) h = lt-ltb n (2 ^ 39) (omega arith)
in_40 (negsuc n) h = lt-ltb n (2 ^ 39) (omega arith)

whole_40 : (z : ℤ) → nat_abs z ≤ 2 ^ 30 → signed_at (2 ^ 39) (mod_z z (2 ^ 40)) ≡ z
whole_40 (pos n) h = signed_pos (2 ^ 39) (n % 2 ^ 40) (omega arith) ∙ ap pos (omega arith)
whole_40 (negsuc n) h = signed-neg (2 ^ 39) (2 ^ 40 - suc (n % 2 ^ 40)) (omega arith) ∙ ap negsuc (omega arith)

once : (z : ℤ) → z *ℤ pos 1 ≡ z
once (pos n) = ap pos (omega arith)
once (negsuc n) = below_zero (suc n * 1) n (omega arith)

abbrev mode : Bool → Bool → Bool → Bool → Mode
mode fi su rt omc = record { fi = fi; su = su; rt = rt; omc = omc }

module _ (ux uy : Bool) (x y : ℕ) where
  abbrev hx : ℕ
  hx = half_of ux x

  abbrev hy : ℕ
  hy = half_of uy y

  small-x : hx < 2 ^ 16
  small-x = half-below ux x

  small_y : hy < 2 ^ 16
  small_y = half-below uy y

  unsigned_small : hx * hy < 2 ^ 40
  unsigned_small = omega (arith, mul-le-mul (le_of_lt small-x) (le_of_lt small_y))

  signed-small : nat_abs (signed_at (2 ^ 15) hx *ℤ signed_at (2 ^ 15) hy) ≤ 2 ^ 30
  signed-small = rw (abs_product (signed_at (2 ^ 15) hx) (signed_at (2 ^ 15) hy)) (mul-le-mul (within hx small-x) (within hy small_y))

  exact_in : (fi su rt omc : Bool) → let k : Mode = mode fi su rt omc in product_of k (word_operand k ux x) (word_operand k uy y) ≡ product_of_halves k ux x uy y
  unfolding word_operand
  exact_in true su rt omc =
      rw (shifted hx small-x, shifted hy small_y, scaled-both (2 ^ 16) (2 ^ 16) (signed_at (2 ^ 15) hx) (signed_at (2 ^ 15) hy))
      (not-rounded rt (signed_at (2 ^ 15) hx *ℤ signed_at (2 ^ 15) hy))
  exact_in false true rt omc = ap pos (mod-eq_of_lt unsigned_small) ∙ sym (once (pos (hx * hy)))
  exact_in false false rt omc =
      rw (extended hx small-x, extended hy small_y) (whole_40 _ signed-small ∙ sym (once (signed_at (2 ^ 15) hx *ℤ signed_at (2 ^ 15) hy)))

  fits_in : (fi su rt omc : Bool) → let k : Mode = mode fi su rt omc in product_over k (word_operand k ux x) (word_operand k uy y) ≡ false
  unfolding word_operand
  fits_in true su rt omc = refl
  fits_in false true rt omc = rw (lt-ltb (hx * hy) (2 ^ 40) unsigned_small)
  fits_in false false rt omc = rw (extended hx small-x, extended hy small_y, in_40 _ signed-small)

exact-product : (k : Mode) (ux uy : Bool) (x y : ℕ) → product_of k (word_operand k ux x) (word_operand k uy y) ≡ product_of_halves k ux x uy y
exact-product k ux uy x y = exact_in ux uy x y k.fi k.su k.rt k.omc

no_overflow : (k : Mode) (ux uy : Bool) (x y : ℕ) → product_over k (word_operand k ux x) (word_operand k uy y) ≡ false
no_overflow k ux uy x y = fits_in ux uy x y k.fi k.su k.rt k.omc

the_halves : (macsr w : ℕ) (upper : Bool) (v : ℕ) → w / 0x800 % 2 ≡ 0 → operand macsr w upper v ≡ word_operand (mode_of macsr) upper v
unfolding operand
the_halves macsr w upper v h = rw (eq-eqb _ _ h)

the_whole : (macsr w : ℕ) (upper : Bool) (v : ℕ) → w / 0x800 % 2 ≡ 1 → operand macsr w upper v ≡ v
unfolding operand
the_whole macsr w upper v h = rw h

of_halves : (macsr w i x y : ℕ) → w / 0x800 % 2 ≡ 0
    → let k : Mode = mode_of macsr in
    accumulating macsr w i x y
    ≡ Accumulate i (w / 0x200 % 4) (eqb (w / 0x100 % 2) 1) (word_operand k (eqb (w / 0x80 % 2) 1) x) (word_operand k (eqb (w / 0x40 % 2) 1) y)
of_halves macsr w i x y h = rw (the_halves macsr w (eqb (w / 0x80 % 2) 1) x h, the_halves macsr w (eqb (w / 0x40 % 2) 1) y h)

pub word_products : WordProducts
unfolding accumulate
word_products =
    record {
      halves = of_halves;
      longs = λ macsr w i x y h. rw (the_whole macsr w (eqb (w / 0x80 % 2) 1) x h, the_whole macsr w (eqb (w / 0x40 % 2) 1) y h);
      exact = exact-product;
      fits = no_overflow;
      summed = λ e i s sub ux uy x y. rw (no_overflow (mode_of e.macsr) ux uy x y, exact-product (mode_of e.macsr) ux uy x y);
    }
