-- What each way of `mac_read` and its parts is, in plain numbers. Assumes nothing.
use Rattle.std.proofs.Common.{◌≡◌, ℕ, zero, suc, ◌+◌, ◌-◌, ◌*◌, ◌/◌, ◌%◌, ◌^◌, ◌<◌, ◌≤◌, Bool, true, false, cond, not, ◌&&◌, ◌||◌, ltb, leb, ℤ, pos, negsuc, sym, refl, ap, ◌∙◌, arith, lt-ltb, subst, div-add-mod', div-le_self, mod-eq_of_lt, mul_comm, mul_assoc, mul-div_cancel}
use Rattle.word.specs.TestLaws.{by-lt}
use mathlib.Core.Bool.{and-false}
use lib.IntN.{suc_ℤ}
use lib.Signed.{shr_z}
use Rattle.manual.specs.declared.Mode.{Mode}
use Rattle.manual.specs.Word.{mod_z, in_half, negative}
use Rattle.manual.specs.Emac.{rounds_up, rounded, value_of, read_acc}
use Rattle.word.specs.RaisedLaws.{Up, higher, up-negative, out-half}
use Rattle.emac.specs.Parts.{clamped, IsRounded, IsClamped}
use Rattle.emac.specs.BoolLaws.{by_bool}
use Rattle.emac.specs.Products.{rounded_quotient}
use Rattle.emac.specs.RoundLaws.{mod_is, rounds}

-- ---- parts of 2^52

module _ (n : ℕ) (e : 2 ^ 52 % n ≡ 0) where
  part : 2 ^ 52 / n * n ≡ 2 ^ 52
  part = omega (arith, div-add-mod' (2 ^ 52) n)

  some : 0 < n
  some = by-lt 0 n (λ h. h) (λ h. absurd (none (omega arith)))
    where
      none : n ≡ 0 → ⊥
      none q = let f : 2 ^ 52 % 0 ≡ 0 = rw q at e in omega (arith, f)

module _ (rt : Bool) (m r : ℕ) (e : 2 ^ 52 % (m * 2) ≡ 0) where
  abbrev B : ℕ
  B = 2 ^ 52 / (m * 2)

  whole : B * 2 * m ≡ 2 ^ 52
  whole = mul_assoc B 2 m ∙ ap (λ (t : ℕ). B * t) (mul_comm 2 m) ∙ part (m * 2) e

  over : 2 ^ 52 / m ≡ B * 2
  over = ap (λ (t : ℕ). t / m) (sym whole) ∙ mul-div_cancel (B * 2) (omega (arith, some (m * 2) e))

  pub near : IsRounded rt m r (rounded_quotient rt m r + (0x10_0000_0000_0000 - 0x10_0000_0000_0000 / m))
  near =
      record {
        value = λ z u. rw over (higher (B * 2) (2 ^ 52) (rounded rt z m) (rounded_quotient rt m r) (omega (arith, over, div-le_self (2 ^ 52) m))
            (rounds rt B m r z (omega (arith, some (m * 2) e)) (subst (λ (t : ℕ). Up t z r) (sym whole) u)));
      }

module _ (omc below : Bool) (H q : ℕ) (e : 2 ^ 52 % (H * 2) ≡ 0) (h : H ≤ 2 ^ 31) where
  abbrev pub out : Bool
  out = ltb q (2 ^ 52 - H) || leb (2 ^ 52 + H) q

  twice : H + H ≡ H * 2
  twice = omega arith

  least : (H - 1) % (H + H) ≡ H - 1
  least = mod-eq_of_lt (omega (arith, some (H * 2) e))

  pub clamped_in : (omc && out) ≡ false → IsClamped omc below H q (q % (H * 2))
  clamped_in o = record { value = λ z u. rw (out-half (2 ^ 52) H z q (omega arith) u, o, twice) (sym (mod_is (2 ^ 52 / (H * 2)) (H * 2) (some (H * 2) e) z q (subst (λ (t : ℕ). Up t z q) (sym (part (H * 2) e)) u))) }

-- ---- a rounded number that is out of range has the sign of what was rounded

after : (H a : ℕ) → 0 < H → not (in_half H (suc_ℤ (negsuc a))) ≡ true → negative (suc_ℤ (negsuc a)) ≡ true
after H zero h e = rw (lt-ltb 0 H h) at e
after H (suc a) h e = refl

side : (rt : Bool) (z : ℤ) (m H : ℕ) → 0 < H → not (in_half H (rounded rt z m)) ≡ true → negative (rounded rt z m) ≡ negative z
side rt (pos n) m H h e = go rt (rounds_up m (mod_z (pos n) m) (mod_z (shr_z (pos n) m) 2))
  where
    go : (b c : Bool) → negative (cond b (cond c (suc_ℤ (pos (n / m))) (pos (n / m))) (pos (n / m))) ≡ false
    go true true = refl
    go true false = refl
    go false c = refl
side rt (negsuc n) m H h e = go rt (rounds_up m (mod_z (negsuc n) m) (mod_z (shr_z (negsuc n) m) 2)) e
  where
    go : (b c : Bool) → let q : ℤ = cond b (cond c (suc_ℤ (negsuc (n / m))) (negsuc (n / m))) (negsuc (n / m)) in not (in_half H q) ≡ true → negative q ≡ true
    go true true f = after H (n / m) h f
    go true false f = refl
    go false c f = refl

clamped-rounded : (omc rt : Bool) (z : ℤ) (m H : ℕ) → 0 < H → let q : ℤ = rounded rt z m in clamped omc H (negative z) q ≡ clamped omc H (negative q) q
clamped-rounded omc rt z m H h = by_bool (not (in_half H (rounded rt z m)))
    (λ e. rw (side rt z m H h e))
    (λ e. rw (e, and-false omc))

-- ---- by the modes; r is the accumulator's number raised

module _ (k : Mode) (a r v : ℕ) (u : Up (2 ^ 52) (value_of k a) r) where
  abbrev z : ℤ
  z = value_of k a

  clamped-is : (omc rt : Bool) (m H q : ℕ) → 0 < H → IsRounded rt m r q → IsClamped omc (ltb r 0x10_0000_0000_0000) H q v
      → let w : ℤ = rounded rt z m in v ≡ mod_z (clamped omc H (negative w) w) (H + H)
  clamped-is omc rt m H q h hq hv =
      let w : ℤ = rounded rt z m in
      hv.value w (hq.value z u)
      ∙ ap (λ (b : Bool). mod_z (clamped omc H b w) (H + H)) (sym (up-negative (2 ^ 52) z r u))
      ∙ ap (λ (t : ℤ). mod_z t (H + H)) (clamped-rounded omc rt z m H h)

  pub word : k.fi ≡ true → k.su ≡ true → (q : ℕ) → IsRounded true (2 ^ 24) r q → IsClamped k.omc (ltb r 0x10_0000_0000_0000) (2 ^ 15) q v
      → v ≡ read_acc k a
  unfolding read_acc
  word f s q hq hv = rw (f, s) (rw f at (clamped-is k.omc true (2 ^ 24) (2 ^ 15) q (omega arith) hq hv))

  pub long : k.fi ≡ true → k.su ≡ false → (q : ℕ) → IsRounded k.rt (2 ^ 8) r q → IsClamped k.omc (ltb r 0x10_0000_0000_0000) (2 ^ 31) q v
      → v ≡ read_acc k a
  unfolding read_acc
  long f s q hq hv = rw (f, s) (rw f at (clamped-is k.omc k.rt (2 ^ 8) (2 ^ 31) q (omega arith) hq hv))

  pub integer : k.fi ≡ false → k.su ≡ false → IsClamped k.omc (ltb r 0x10_0000_0000_0000) (2 ^ 31) r v → v ≡ read_acc k a
  unfolding read_acc
  integer f s hv = rw (f, s) (rw (← up-negative (2 ^ 52) z r u, f, s) at (hv.value z u))

pub whole_long : (k : Mode) (a : ℕ) → k.fi ≡ false → k.su ≡ true
    → cond (k.omc && not (ltb (a % 2 ^ 48) (2 ^ 32))) (2 ^ 32 - 1) (a % 2 ^ 48 % 2 ^ 32) ≡ read_acc k a
unfolding read_acc
whole_long k a f s = by_bool (k.omc && not (ltb (a % 2 ^ 48) (2 ^ 32))) (λ e. rw (f, s, e)) (λ e. rw (f, s, e))
