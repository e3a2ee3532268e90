-- The product of two longs as the code finds it, in each mode, and the scale factor: what each way is, in plain numbers. Assumes nothing.
use Rattle.std.specs.Prelude.{◌≡◌, ℕ, suc, ◌+◌, ◌-◌, ◌*◌, ◌/◌, ◌%◌, ◌^◌, ◌<◌, ◌≤◌, Bool, true, false, not, ◌&&◌, ◌||◌, ℤ, pos, negsuc, ◌*ℤ◌, ◌≢◌, nat_le, nat_lt, refl}
use Rattle.std.proofs.Common.{sym, mul-le-mul, le_of_lt, lt_of_le_of_lt, mul-le-mul_left, mul-lt-mul_of_pos_right, arith, lit<, lt-ltb, le-ltb, eq-eqb, ne_eqb}
use Rattle.std.proofs.Math.Path.{ap}
use Rattle.manual.specs.declared.Size.TheVariants.{Long}
use Rattle.manual.specs.declared.Mode.{Mode}
use Rattle.manual.specs.Word.{signed, in_half}
use Rattle.manual.specs.Emac.{product_over, scaled, scale_of, rounds_up}
use Rattle.word.specs.SignedLaws.{signed_pos, signed-neg}
use Rattle.word.specs.WordLaws.{cut_small}
use Rattle.word.specs.RaisedLaws.{Up, higher, plus, up_neg, up-negative, out-half, signed_up}
use Rattle.emac.specs.Products.{fraction, beyond, signed_product, unsigned_product, far_product, raised, raised_product, IsFraction, IsNumber, IsScaled, IsScaledProduct}
use Rattle.emac.specs.declared.product.Raised.{Raised}
use Rattle.emac.specs.RoundLaws.{floor23, mod23, odd23, mod40, halved, round_up, round_down}

-- ---- the numbers of two longs, by the signs; q is the product of the magnitudes

pub times31 : (x y : ℕ) → x ≤ 2 ^ 31 → y ≤ 2 ^ 31 → x * y ≤ 2 ^ 62
times31 x y h k = mul-le-mul h k

pub times32 : (x y : ℕ) → x < 2 ^ 32 → y < 2 ^ 32 → x * y < 2 ^ 64
times32 x y h k = lt_of_le_of_lt (mul-le-mul_left x (le_of_lt k)) (mul-lt-mul_of_pos_right h (lit< tt))

pub long_pos : (x : ℕ) → x < 2 ^ 31 → signed Long x ≡ pos x
long_pos x h = rw (cut_small Long x (omega arith)) (signed_pos (2 ^ 31) x h)

pub long-neg : (x : ℕ) → 2 ^ 31 ≤ x → x < 2 ^ 32 → signed Long x ≡ negsuc (2 ^ 32 - suc x)
long-neg x h l = rw (cut_small Long x l) (signed-neg (2 ^ 31) x h)

suc_less : (x : ℕ) → x < 2 ^ 32 → suc (2 ^ 32 - suc x) ≡ 2 ^ 32 - x
suc_less x h = omega arith

module _ (x y q : ℕ) where
  pub pos_pos : x < 2 ^ 31 → y < 2 ^ 31 → q ≡ x * y → Up (2 ^ 62) (signed Long x *ℤ signed Long y) (2 ^ 62 + q)
  pos_pos px py e = rw (long_pos x px, long_pos y py, e) refl

  pub pos_neg : x < 2 ^ 31 → 2 ^ 31 ≤ y → y < 2 ^ 32 → q ≡ x * (2 ^ 32 - y) → q ≤ 2 ^ 62 → Up (2 ^ 62) (signed Long x *ℤ signed Long y) (2 ^ 62 - q)
  pos_neg px ny hy e l = rw (long_pos x px, long-neg y ny hy, suc_less y hy, ← e) (up_neg (2 ^ 62) q l)

  pub neg_pos : 2 ^ 31 ≤ x → x < 2 ^ 32 → y < 2 ^ 31 → q ≡ (2 ^ 32 - x) * y → q ≤ 2 ^ 62 → Up (2 ^ 62) (signed Long x *ℤ signed Long y) (2 ^ 62 - q)
  neg_pos nx hx py e l = rw (long-neg x nx hx, long_pos y py, suc_less x hx, ← e) (up_neg (2 ^ 62) q l)

  pub neg-neg : 2 ^ 31 ≤ x → x < 2 ^ 32 → 2 ^ 31 ≤ y → y < 2 ^ 32 → q ≡ (2 ^ 32 - x) * (2 ^ 32 - y) → Up (2 ^ 62) (signed Long x *ℤ signed Long y) (2 ^ 62 + q)
  neg-neg nx hx ny hy e = rw (long-neg x nx hx, long-neg y ny hy, suc_less x hx, suc_less y hy, e) refl

-- ---- the fraction

module _ (rt : Bool) (p : ℕ) (h : p ≤ 2 ^ 63) where
  pub fraction-up : (rt && rounds_up (2 ^ 23) (p % 2 ^ 23) (p / 2 ^ 23 % 2)) ≡ true → IsFraction rt p (p / 2 ^ 23 + 1)
  fraction-up t = record { value = λ z u. round_up rt (2 ^ 23) (2 ^ 39) p z (floor23 z p u) (mod23 z p u) (odd23 z p u) t; high = omega arith }

  pub fraction-down : (rt && rounds_up (2 ^ 23) (p % 2 ^ 23) (p / 2 ^ 23 % 2)) ≡ false → IsFraction rt p (p / 2 ^ 23)
  fraction-down t = record { value = λ z u. round_down rt (2 ^ 23) (2 ^ 39) p z (floor23 z p u) (mod23 z p u) (odd23 z p u) t; high = omega arith }

pub fractional-is : (rt : Bool) (z : ℤ) (p f : ℕ) → Up (2 ^ 62) z p → IsFraction rt p f
    → IsNumber (fraction rt z) false (record { value = f + 0xF_FF80_0000_0000; over = false })
fractional-is rt z p f u h =
    record {
      value = higher (2 ^ 39) (2 ^ 52) (fraction rt z) f (omega arith) (h.value z u);
      over = refl;
      low = omega (arith, h.high);
      high = omega (arith, h.high);
    }

-- ---- unsigned integers; n is the product

module _ (omc : Bool) (n : ℕ) where
  pub unsigned-fits : n < 2 ^ 40 → IsNumber (unsigned_product omc n) (not (nat_lt n (2 ^ 40))) (record { value = 0x10_0000_0000_0000 + n; over = false })
  unsigned-fits h =
      record { value = rw (lt-ltb n (2 ^ 40) h) (omega arith); over = rw (lt-ltb n (2 ^ 40) h) refl; low = omega arith; high = omega arith }

  pub unsigned-over : 2 ^ 40 ≤ n → omc ≡ true → IsNumber (unsigned_product omc n) (not (nat_lt n (2 ^ 40))) (record { value = 0x14_0000_0000_0000; over = true })
  unsigned-over h t =
      record { value = rw (t, le-ltb n (2 ^ 40) h) refl; over = rw (le-ltb n (2 ^ 40) h) refl; low = omega arith; high = omega arith }

  pub unsigned-wraps : 2 ^ 40 ≤ n → omc ≡ false
      → IsNumber (unsigned_product omc n) (not (nat_lt n (2 ^ 40))) (record { value = 0x10_0000_0000_0000 + n % 0x100_0000_0000; over = true })
  unsigned-wraps h t =
      record { value = rw (t, le-ltb n (2 ^ 40) h) refl; over = rw (le-ltb n (2 ^ 40) h) refl; low = omega arith; high = omega arith }

-- ---- signed integers; z is the product, and p is z raised by 2^62

abbrev pub over40 : ℕ → Bool
over40 p = nat_lt p 0x3FFF_FF80_0000_0000 || nat_le 0x4000_0080_0000_0000 p

module _ (omc : Bool) (z : ℤ) (p : ℕ) (u : Up (2 ^ 62) z p) where
  pub over-is : over40 p ≡ not (in_half (2 ^ 39) z)
  over-is = sym (out-half (2 ^ 62) (2 ^ 39) z p (omega arith) u)

  saturates : (over40 p && omc) ≡ true → signed_product omc z ≡ beyond (nat_lt p (2 ^ 62))
  saturates e = rw (← over-is, e, up-negative (2 ^ 62) z p u) refl

  wraps : (over40 p && omc) ≡ false → Up (2 ^ 39) (signed_product omc z) ((p + 2 ^ 39) % 2 ^ 40)
  wraps e =
      rw (← over-is, e, mod40 z p u)
      (signed_up (2 ^ 39) (2 ^ 39) (p % 2 ^ 40) ((p + 2 ^ 39) % 2 ^ 40) (λ h. omega arith) (λ h. omega arith) (omega arith))

  pub signed_low : (over40 p && omc) ≡ true → p < 2 ^ 62
      → IsNumber (signed_product omc z) (not (in_half (2 ^ 39) z)) (record { value = 0xB_FFFF_FFFF_FFFF; over = over40 p })
  signed_low e h =
      record {
        value = rw (saturates e, lt-ltb p (2 ^ 62) h) refl;
        over = over-is;
        low = omega arith;
        high = omega arith;
      }

  pub signed_high : (over40 p && omc) ≡ true → 2 ^ 62 ≤ p
      → IsNumber (signed_product omc z) (not (in_half (2 ^ 39) z)) (record { value = 0x14_0000_0000_0000; over = over40 p })
  signed_high e h =
      record {
        value = rw (saturates e, le-ltb p (2 ^ 62) h) refl;
        over = over-is;
        low = omega arith;
        high = omega arith;
      }

  pub signed-wraps : (over40 p && omc) ≡ false
      → IsNumber (signed_product omc z) (not (in_half (2 ^ 39) z))
      (record { value = (p + 0x80_0000_0000) % 0x100_0000_0000 + 0xF_FF80_0000_0000; over = over40 p })
  signed-wraps e =
      record {
        value = higher (2 ^ 39) (2 ^ 52) (signed_product omc z) ((p + 2 ^ 39) % 2 ^ 40) (omega arith) (wraps e);
        over = over-is;
        low = omega arith;
        high = omega arith;
      }

-- ---- the scale factor

module _ (s v : ℕ) (low : 2 ^ 52 - 2 ^ 50 - 1 ≤ v) (high : v ≤ 2 ^ 52 + 2 ^ 50) where
  pub scaled-twice : s ≡ 1 → IsScaled s v (v + v - 0x10_0000_0000_0000)
  scaled-twice e =
      record { value = λ z u. rw (eq-eqb s 1 e) (plus (2 ^ 52) z z v v u u (omega arith)); low = omega arith; high = omega arith }

  pub scaled-half : s ≡ 3 → IsScaled s v ((v + 0x10_0000_0000_0000) / 2)
  scaled-half e =
      record { value = λ z u. rw (ne_eqb s 1 (λ q. not-one q), eq-eqb s 3 e) (halved z v u); low = omega arith; high = omega arith }
    where
      not-one : s ≡ 1 → ⊥
      not-one q = omega arith

  pub scaled-once : (s ≢ 1) → (s ≢ 3) → IsScaled s v v
  scaled-once e f = record { value = λ z u. rw (ne_eqb s 1 e, ne_eqb s 3 f) u; low = omega arith; high = omega arith }

-- ---- the parts put together: p, w and v are what the code finds

pub scaled-is : (k : Mode) (s x y : ℕ) (p : Raised) (w v : ℕ)
    → IsNumber (far_product k x y) (product_over k x y) p → w ≡ scale_of k s → IsScaled w p.value v
    → IsScaledProduct k s x y (record { value = v; over = p.over })
scaled-is k s x y p w v hp ew hv =
    record { value = rw (← ew) (hv.value (far_product k x y) hp.value); over = hp.over; low = hv.low; high = hv.high }

-- ---- raised numbers as an equation

pub raised_is : (B : ℕ) (z : ℤ) (r : ℕ) → Up B z r → r ≡ raised B z
raised_is B (pos n) r u = u
raised_is B (negsuc n) r u = omega (arith, u)

pub up_of : (B : ℕ) (z : ℤ) (r : ℕ) → r ≡ raised B z → 0 < r → Up B z r
up_of B (pos n) r e h = e
up_of B (negsuc n) r e h = omega (arith, e, h)

abbrev pub Told : Mode → ℕ → ℕ → ℕ → Raised → Type 0
Told k s x y r = (r ≡ raised_product k s x y) × (2 ^ 51 - 2 ≤ r.value) × (r.value ≤ 2 ^ 52 + 2 ^ 51)

module _ (k : Mode) (s x y : ℕ) (r : Raised) where
  abbrev product : ℤ
  product = scaled (scale_of k s) (far_product k x y)

  pub told : IsScaledProduct k s x y r → Told k s x y r
  unfolding raised_product
  told h =
      let e : r.value ≡ raised (2 ^ 52) product = raised_is (2 ^ 52) product r.value h.value in
      (rw (← e, ← h.over), h.low, h.high)

  pub taken : Told k s x y r → IsScaledProduct k s x y r
  unfolding raised_product
  taken (e, l, h) =
      record {
        value = up_of (2 ^ 52) product r.value (ap (λ (t : Raised). t.value) e) (omega (arith, l));
        over = ap (λ (t : Raised). t.over) e;
        low = l;
        high = h;
      }
