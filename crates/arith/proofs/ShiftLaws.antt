-- Shifts as the code does them, in 64 bits and, of a negative number, on its complement. Assumes nothing.
use mathlib.Core.Path.{◌≡◌, sym, ap, ◌∙◌}
use Prim.Native.Nat.{ℕ, suc, ◌+◌, ◌-◌, ◌*◌, ◌/◌, ◌%◌, ◌^◌, ◌≤◌, ◌<◌}
use native.Mathlib.Nat.{div-le_self, mod-eq_of_lt}
use native.Mathlib.Omega.{arith}
use lib.Dec.{eqb}
use lib.Pow.{field, mod-mod-pow}
use borrow.Author.Tests.{eq-eqb, ne_eqb}
use Rattle.manual.specs.Shift.{shifted_left, shifted_right, signed_shifted_right}
use Rattle.word.specs.TestLaws.{by-lt}
use Rattle.arith.proofs.LongLaws.{long_pos, long-neg}

pub left_is : (v n : ℕ)
    → record { value = v * 2 ^ n % 2 ^ 64 % 2 ^ 32; carry = eqb (v * 2 ^ n % 2 ^ 64 / 2 ^ 32 % 2) 1 } ≡ shifted_left v n
unfolding shifted_left
left_is v n =
    let e : v * 2 ^ n % 2 ^ 64 % 2 ^ 32 ≡ v * 2 ^ n % 2 ^ 32 = mod-mod-pow (v * 2 ^ n) 32 32 in
    let f : v * 2 ^ n % 2 ^ 64 / 2 ^ 32 % 2 ≡ v * 2 ^ n / 2 ^ 32 % 2 =
    ap (λ (t : ℕ). t % 2) (field (v * 2 ^ n) 32 32) ∙ mod-mod-pow (v * 2 ^ n / 2 ^ 32) 31 1 in
    rw (e, f)

pub right_pos : (v n : ℕ) → v < 0x8000_0000 → shifted_right v n ≡ signed_shifted_right v n
unfolding shifted_right signed_shifted_right
right_pos v n h =
    let d : v + v ≡ v * 2 = omega arith in
    let e : v / 2 ^ n % 2 ^ 32 ≡ v / 2 ^ n = mod-eq_of_lt (omega (arith, div-le_self v (2 ^ n))) in
    rw (long_pos v h, d, e)

even : (x : ℕ) → eqb (x % 2) 0 ≡ eqb (2 - suc (x % 2)) 1
even x = by-lt (x % 2) 1
    (λ h. eq-eqb _ _ (none h) ∙ sym (eq-eqb _ _ (none' h)))
    (λ h. ne_eqb _ _ (one h) ∙ sym (ne_eqb _ _ (one' h)))
  where
    none : x % 2 < 1 → x % 2 ≡ 0
    none h = omega arith

    none' : x % 2 < 1 → 2 - suc (x % 2) ≡ 1
    none' h = omega arith

    one : 1 ≤ x % 2 → x % 2 ≡ 0 → ⊥
    one h e = omega arith

    one' : 1 ≤ x % 2 → 2 - suc (x % 2) ≡ 1 → ⊥
    one' h e = omega arith

pub right_neg : (v n : ℕ) → 0x8000_0000 ≤ v → v < 2 ^ 32
    → record { value = 0xFFFF_FFFF - (0xFFFF_FFFF - v) / 2 ^ n; carry = eqb (((0xFFFF_FFFF - v) * 2 + 1) / 2 ^ n % 2) 0 }
    ≡ signed_shifted_right v n
unfolding signed_shifted_right
right_neg v n h k =
    let m : 2 ^ 32 - suc v ≡ 0xFFFF_FFFF - v = omega arith in
    let d : suc (0xFFFF_FFFF - v + (0xFFFF_FFFF - v)) ≡ (0xFFFF_FFFF - v) * 2 + 1 = omega arith in
    let e : (0xFFFF_FFFF - v) / 2 ^ n % 2 ^ 32 ≡ (0xFFFF_FFFF - v) / 2 ^ n =
    mod-eq_of_lt (omega (arith, div-le_self (0xFFFF_FFFF - v) (2 ^ n))) in
    let f : 2 ^ 32 - suc ((0xFFFF_FFFF - v) / 2 ^ n) ≡ 0xFFFF_FFFF - (0xFFFF_FFFF - v) / 2 ^ n = omega arith in
    rw (long-neg v h k, m, d, e, f, even (((0xFFFF_FFFF - v) * 2 + 1) / 2 ^ n))
