-- Raised numbers: what division and remainder do, by the sign, at the widths of a product and by any m; and rounding. Assumes nothing.
use Rattle.std.specs.Prelude.{◌≡◌, ℕ, suc, ◌+◌, ◌-◌, ◌*◌, ◌/◌, ◌%◌, ◌<◌, Bool, true, false, cond, ◌&&◌, ℤ, pos, negsuc, refl, ◌^◌, ◌||◌, ◌==◌, ◌≢◌, nat_lt}
use Rattle.std.proofs.Common.{arith, lit<, ap, ◌∙◌, add-mul, suc-mul, mul-le-mul_right, mod-lt, div-add-mod', lt-ltb, le-ltb, eq-eqb, ne_eqb}
use Rattle.std.proofs.lemmas.Nat.{div-mul-add, mod-mul-add}
use Rattle.std.specs.Int.Signed.{shr_z}
use Rattle.manual.specs.Word.{mod_z}
use Rattle.manual.specs.Emac.{rounds_up, rounded}
use Rattle.word.specs.RaisedLaws.{Up, next}
use Rattle.word.specs.TestLaws.{by-lt}
use Rattle.emac.specs.Products.{rounded_quotient}
use Rattle.emac.specs.BoolLaws.{and_left, and_right}

-- ---- products, raised by 2^62

pub floor23 : (z : ℤ) (p : ℕ) → Up (2 ^ 62) z p → Up (2 ^ 39) (shr_z z (2 ^ 23)) (p / 2 ^ 23)
floor23 (pos n) p u = omega arith
floor23 (negsuc n) p u = omega arith

pub mod23 : (z : ℤ) (p : ℕ) → Up (2 ^ 62) z p → mod_z z (2 ^ 23) ≡ p % 2 ^ 23
mod23 (pos n) p u = omega arith
mod23 (negsuc n) p u = omega arith

pub odd23 : (z : ℤ) (p : ℕ) → Up (2 ^ 62) z p → mod_z (shr_z z (2 ^ 23)) 2 ≡ p / 2 ^ 23 % 2
odd23 (pos n) p u = omega arith
odd23 (negsuc n) p u = omega arith

pub mod40 : (z : ℤ) (p : ℕ) → Up (2 ^ 62) z p → mod_z z (2 ^ 40) ≡ p % 2 ^ 40
mod40 (pos n) p u = omega arith
mod40 (negsuc n) p u = omega arith

-- ---- half of a number raised by 2^52

pub halved : (z : ℤ) (r : ℕ) → Up (2 ^ 52) z r → Up (2 ^ 52) (shr_z z 2) ((r + 2 ^ 52) / 2)
halved (pos n) r u = omega arith
halved (negsuc n) r u = omega arith

-- ---- rounding, where the floor, what is left over and the parity are those of the raised number

module _ (rt : Bool) (m B r : ℕ) (z : ℤ) (f : Up B (shr_z z m) (r / m)) (e : mod_z z m ≡ r % m) (o : mod_z (shr_z z m) 2 ≡ r / m % 2) where
  pub round_up : (rt && rounds_up m (r % m) (r / m % 2)) ≡ true → Up B (rounded rt z m) (r / m + 1)
  round_up t = rw (and_left rt (rounds_up m (r % m) (r / m % 2)) t, e, o, and_right rt (rounds_up m (r % m) (r / m % 2)) t) (next B (shr_z z m) (r / m) f)

  pub round_down : (rt && rounds_up m (r % m) (r / m % 2)) ≡ false → Up B (rounded rt z m) (r / m)
  round_down t = go rt t
    where
      go : (b : Bool) → (b && rounds_up m (r % m) (r / m % 2)) ≡ false → Up B (rounded b z m) (r / m)
      go true q = rw (e, o, q) f
      go false q = f

-- ---- the test by the half of the divisor

pub by-half : (h r o : ℕ) → (nat_lt h r || (r == h && o == 1)) ≡ rounds_up (h * 2) r o
by-half h r o = by-lt h r
    (λ l. rw (lt-ltb h r l, lt-ltb (h * 2) (r * 2) (omega arith)))
    (λ l. by-lt r h
    (λ j. rw (le-ltb h r l, le-ltb (h * 2) (r * 2) (omega arith), ne_eqb r h (λ q. below j q), ne_eqb (r * 2) (h * 2) (λ q. below j (omega arith))))
    (λ j. rw (le-ltb h r l, le-ltb (h * 2) (r * 2) (omega arith), eq-eqb r h (omega arith), eq-eqb (r * 2) (h * 2) (omega arith))))
  where
    below : r < h → r ≢ h
    below j q = omega arith

-- ---- a number raised by a multiple of m: what division by m does

module _ (B m : ℕ) (h : 0 < m) where
  -- by the quotient and the remainder of the raised number
  above : (n r : ℕ) → r ≡ B * m + n → r ≡ (B + n / m) * m + n % m
  above n r u = rw (add-mul B (n / m) m) (omega (arith, div-add-mod' n m))

  below : (n r : ℕ) → r + suc n ≡ B * m → n / m < B
  below n r u = by-lt (n / m) B (λ l. l) (λ l. absurd (omega (arith, mul-le-mul_right m l, div-add-mod' n m)))

  under : (n r : ℕ) → r + suc n ≡ B * m → r ≡ (B - suc (n / m)) * m + (m - suc (n % m))
  under n r u =
      let e : B ≡ B - suc (n / m) + suc (n / m) = omega (arith, below n r u) in
      let f : B * m ≡ (B - suc (n / m)) * m + suc (n / m) * m = ap (λ (t : ℕ). t * m) e ∙ add-mul (B - suc (n / m)) (suc (n / m)) m in
      let k : suc (n / m) * m ≡ n / m * m + m = omega (arith, suc-mul (n / m) m) in
      omega (arith, mod-lt n h, div-add-mod' n m)

  pub floor : (z : ℤ) (r : ℕ) → Up (B * m) z r → Up B (shr_z z m) (r / m)
  floor (pos n) r u = rw (above n r u) (div-mul-add (B + n / m) m (n % m) (mod-lt n h))
  floor (negsuc n) r u = rw (under n r u, div-mul-add (B - suc (n / m)) m (m - suc (n % m)) (omega arith)) (omega (arith, below n r u))

  pub mod_is : (z : ℤ) (r : ℕ) → Up (B * m) z r → mod_z z m ≡ r % m
  mod_is (pos n) r u = rw (above n r u, mod-mul-add (B + n / m) m (n % m) (mod-lt n h))
  mod_is (negsuc n) r u = rw (under n r u, mod-mul-add (B - suc (n / m)) m (m - suc (n % m)) (omega arith))

-- ---- rounding, by any m

pub rounds : (rt : Bool) (B m r : ℕ) (z : ℤ) → 0 < m → Up (B * 2 * m) z r → Up (B * 2) (rounded rt z m) (rounded_quotient rt m r)
rounds rt B m r z h u = go rt (rounds_up m (r % m) (r / m % 2)) refl
  where
    f : Up (B * 2) (shr_z z m) (r / m)
    f = floor (B * 2) m h z r u

    go : (a b : Bool) → rounds_up m (r % m) (r / m % 2) ≡ b → Up (B * 2) (rounded a z m) (cond (a && b) (r / m + 1) (r / m))
    go false b e = f
    go true true e = rw (mod_is (B * 2) m h z r u, mod_is B 2 (lit< tt) (shr_z z m) (r / m) f, e) (next (B * 2) (shr_z z m) (r / m) f)
    go true false e = rw (mod_is (B * 2) m h z r u, mod_is B 2 (lit< tt) (shr_z z m) (r / m) f, e) f
