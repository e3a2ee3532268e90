-- A signed quotient by the magnitudes, for each pair of signs: what each return of `by_magnitudes` asks. Assumes nothing.
use Rattle.std.specs.Prelude.{Some, None}
use mathlib.Core.Path.{◌≡◌, refl, sym, ap, ◌∙◌}
use mathlib.Core.Bool.{true, false}
use Prim.Native.Nat.{ℕ, zero, suc, ◌+◌, ◌-◌, ◌/◌, ◌%◌, ◌^◌, ◌≤◌, ◌<◌}
use native.Mathlib.Nat.{div-le_self, mod-le, mod-eq_of_lt}
use native.Mathlib.Omega.{arith}
use lib.IntN.{ℤ, pos, neg_ℤ, nat_abs}
use lib.Signed.{quot_z, rem_z}
use lib.Dec.{eqb}
use borrow.Author.Tests.{lt-ltb, le-ltb, ne_eqb}
use Rattle.manual.specs.declared.Size.TheVariants.{Long}
use Rattle.manual.specs.Word.{signed, fits, mod_z, minus}
use Rattle.manual.specs.Divide.{signed_quotient}
use Rattle.word.specs.TestLaws.{by-lt}
use Rattle.arith.proofs.LongLaws.{long_pos, long-neg, mod_neg}

-- ---- magnitudes

pub size_pos : (v : ℕ) → v < 0x8000_0000 → v ≡ nat_abs (signed Long v)
size_pos v h = rw (long_pos v h)

pub size_neg : (v : ℕ) → 0x8000_0000 ≤ v → v < 2 ^ 32 → 0xFFFF_FFFF - v + 1 ≡ nat_abs (signed Long v)
size_neg v h k = rw (long-neg v h k) (omega arith)

pub size_most : (v : ℕ) → v < 2 ^ 32 → nat_abs (signed Long v) ≤ 0x8000_0000
size_most v k =
    by-lt v 0x8000_0000 (λ h. omega (arith, size_pos v h)) (λ h. omega (arith, size_neg v h k))

pub size_some : (v : ℕ) → 0 < v → v < 2 ^ 32 → 0 < nat_abs (signed Long v)
size_some v l k =
    by-lt v 0x8000_0000 (λ h. omega (arith, size_pos v h)) (λ h. omega (arith, size_neg v h k))

-- ---- the long of a negated number

neg-long : (n : ℕ) → n < 2 ^ 32 → mod_z (neg_ℤ (pos n)) (2 ^ 32) ≡ minus 0 n
unfolding minus
neg-long n h = mod_neg n ∙ omega arith

neg-fits : (n : ℕ) → n ≤ 0x8000_0000 → fits Long (neg_ℤ (pos n)) ≡ true
neg-fits zero h = refl
neg-fits (suc n) h = lt-ltb n 0x8000_0000 h

-- ---- the quotient of a by b, n and d being their magnitudes

nonzero : (b : ℕ) → 0 < b → eqb b 0 ≡ false
nonzero b h = ne_eqb b 0 (λ e. omega (arith, e))

fitting : (a b : ℕ) → 0 < b → (q r : ℤ) (x y : ℕ) → quot_z (signed Long a) (signed Long b) ≡ q → rem_z (signed Long a) (signed Long b) ≡ r
    → fits Long q ≡ true → mod_z q (2 ^ 32) ≡ x → mod_z r (2 ^ 32) ≡ y
    → Some (record { quotient = x; remainder = y }) ≡ signed_quotient a b
unfolding signed_quotient
fitting a b some q r x y eq er h ex ey = rw (nonzero b some, eq, er, h, ex, ey)

pos_is : (v n : ℕ) → v < 0x8000_0000 → n ≡ nat_abs (signed Long v) → signed Long v ≡ pos n
pos_is v n h e = long_pos v h ∙ ap pos (size_pos v h ∙ sym e)

neg_size : (v n : ℕ) → 0x8000_0000 ≤ v → v < 2 ^ 32 → n ≡ nat_abs (signed Long v) → suc (2 ^ 32 - suc v) ≡ n
neg_size v n h k e = omega (arith, size_neg v h k)

module _ (a b n d : ℕ) (ha : a < 2 ^ 32) (hb : b < 2 ^ 32) (en : n ≡ nat_abs (signed Long a)) (ed : d ≡ nat_abs (signed Long b))
    (some : 0 < b) where
  few : n / d ≤ 0x8000_0000
  few = omega (arith, div-le_self n d, size_most a ha)

  left : n % d ≤ 0x8000_0000
  left = omega (arith, mod-le n d, size_most a ha)

  pub pos_pos : a < 0x8000_0000 → b < 0x8000_0000
      → Some (record { quotient = n / d; remainder = n % d }) ≡ signed_quotient a b
  pos_pos pa pb =
      let l : n / d < 0x8000_0000 = omega (arith, div-le_self n d, size_pos a pa) in
      fitting a b some (pos (n / d)) (pos (n % d)) (n / d) (n % d) (rw (pos_is a n pa en, pos_is b d pb ed))
      (rw (pos_is a n pa en, pos_is b d pb ed)) (lt-ltb (n / d) 0x8000_0000 l) (mod-eq_of_lt (omega arith))
      (mod-eq_of_lt (omega (arith, left)))

  pub pos_neg : a < 0x8000_0000 → 0x8000_0000 ≤ b → (x : ℕ) → x ≡ minus 0 (n / d)
      → Some (record { quotient = x; remainder = n % d }) ≡ signed_quotient a b
  pos_neg pa nb x ex =
      let f = neg_size b d nb hb ed in
      fitting a b some (neg_ℤ (pos (n / d))) (pos (n % d)) x (n % d) (rw (pos_is a n pa en, long-neg b nb hb, f))
      (rw (pos_is a n pa en, long-neg b nb hb, f)) (neg-fits (n / d) few)
      (neg-long (n / d) (omega (arith, few)) ∙ sym ex) (mod-eq_of_lt (omega (arith, left)))

  pub neg_pos : 0x8000_0000 ≤ a → b < 0x8000_0000 → (x y : ℕ) → x ≡ minus 0 (n / d) → y ≡ minus 0 (n % d)
      → Some (record { quotient = x; remainder = y }) ≡ signed_quotient a b
  neg_pos na pb x y ex ey =
      let e = neg_size a n na ha en in
      fitting a b some (neg_ℤ (pos (n / d))) (neg_ℤ (pos (n % d))) x y (rw (long-neg a na ha, pos_is b d pb ed, e))
      (rw (long-neg a na ha, pos_is b d pb ed, e)) (neg-fits (n / d) few)
      (neg-long (n / d) (omega (arith, few)) ∙ sym ex) (neg-long (n % d) (omega (arith, left)) ∙ sym ey)

  both-neg : 0x8000_0000 ≤ a → 0x8000_0000 ≤ b → quot_z (signed Long a) (signed Long b) ≡ pos (n / d)
  both-neg na nb = rw (long-neg a na ha, long-neg b nb hb, neg_size a n na ha en, neg_size b d nb hb ed)

  pub neg-neg : 0x8000_0000 ≤ a → 0x8000_0000 ≤ b → n / d < 0x8000_0000 → (y : ℕ) → y ≡ minus 0 (n % d)
      → Some (record { quotient = n / d; remainder = y }) ≡ signed_quotient a b
  neg-neg na nb l y ey =
      let e = neg_size a n na ha en in
      let f = neg_size b d nb hb ed in
      fitting a b some (pos (n / d)) (neg_ℤ (pos (n % d))) (n / d) y (both-neg na nb)
      (rw (long-neg a na ha, long-neg b nb hb, e, f)) (lt-ltb (n / d) 0x8000_0000 l) (mod-eq_of_lt (omega arith))
      (neg-long (n % d) (omega (arith, left)) ∙ sym ey)

  pub too_large : 0x8000_0000 ≤ a → 0x8000_0000 ≤ b → 0x8000_0000 ≤ n / d
      → None ≡ signed_quotient a b
  unfolding signed_quotient
  too_large na nb l = rw (nonzero b some, both-neg na nb, le-ltb (n / d) 0x8000_0000 l)
