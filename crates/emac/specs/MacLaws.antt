-- An accumulator's number, a sum, and what is stored of it: what each way of the code is, in plain numbers. Assumes nothing.
use Rattle.std.specs.Prelude.{◌≡◌, ℕ, zero, suc, ◌+◌, ◌-◌, ◌%◌, ◌^◌, ◌<◌, ◌≤◌, Bool, true, false, not, ◌&&◌, ◌||◌, List, [], ◌∷◌, ℤ, pos, negsuc, nat_le, nat_lt, slice_index, slice_set, refl}
use Rattle.std.proofs.Common.{sym, ◌∙◌, arith}
use Rattle.std.proofs.Math.Path.{ap}
use Rattle.manual.specs.declared.Mode.{Mode}
use Rattle.manual.specs.declared.Emac.{Emac}
use Rattle.manual.specs.Word.{mod_z, negative}
use Rattle.manual.specs.Emac.{mode_of, pav, scaled, scale_of, value_of, unsigned, in_range, limit, acc_of, with_acc, with_flags, with_sum, accumulate}
use Rattle.word.specs.RaisedLaws.{Up, plus, minus, up-negative, out-half, out-whole, signed_up}
use Rattle.emac.specs.Sums.{IsValue, IsSum, IsOutside, IsStored, IsWithSum, IsSummed}
use Rattle.emac.specs.declared.product.Raised.{Raised}
use Rattle.emac.specs.Products.{far_product, far_sum, raised, IsScaledProduct}
use Rattle.emac.specs.Overflow.{far_sum-is}
use Rattle.emac.specs.ProductLaws.{raised_is, up_of}
use Rattle.emac.specs.declared.sum.AfterSum.{AfterSum}

module _ (k : Mode) (a : ℕ) where
  pub value-unsigned : unsigned k ≡ true → IsValue k a (a % 2 ^ 48 + 0x10_0000_0000_0000)
  value-unsigned e = record { value = rw e (omega arith); low = omega arith; high = omega arith }

  pub value_low : unsigned k ≡ false → a % 2 ^ 48 < 2 ^ 47 → IsValue k a (a % 2 ^ 48 + 0x10_0000_0000_0000)
  value_low e l =
      record {
        value = rw e (signed_up (2 ^ 52) (2 ^ 47) (a % 2 ^ 48) (a % 2 ^ 48 + 2 ^ 52) (λ _. omega arith) (λ g. omega arith) (omega arith));
        low = omega arith;
        high = omega arith;
      }

  pub value-high : unsigned k ≡ false → 2 ^ 47 ≤ a % 2 ^ 48 → IsValue k a (a % 2 ^ 48 + 0xF_0000_0000_0000)
  value-high e l =
      record {
        value = rw e (signed_up (2 ^ 52) (2 ^ 47) (a % 2 ^ 48) (a % 2 ^ 48 + 0xF_0000_0000_0000) (λ g. omega arith) (λ _. omega arith) (omega arith));
        low = omega arith;
        high = omega arith;
      }

  abbrev pub Told : ℕ → Type 0
  Told r = (r ≡ raised (2 ^ 52) (value_of k a)) × (2 ^ 52 - 2 ^ 47 ≤ r) × (r < 2 ^ 52 + 2 ^ 48)

  pub told : (r : ℕ) → IsValue k a r → Told r
  told r h = (raised_is (2 ^ 52) (value_of k a) r h.value, h.low, h.high)

  pub taken : (r : ℕ) → Told r → IsValue k a r
  taken r (e, l, h) = record { value = up_of (2 ^ 52) (value_of k a) r e (omega (arith, l)); low = l; high = h }

module _ (sub : Bool) (c v : ℕ) where
  pub difference : sub ≡ true → v ≤ c + 2 ^ 52 → IsSum sub c v (c + 0x10_0000_0000_0000 - v)
  difference e h = record { value = λ z w f g. rw e (minus (2 ^ 52) z w c v f g h) }

  pub total : sub ≡ false → 2 ^ 52 ≤ c + v → IsSum sub c v (c + v - 0x10_0000_0000_0000)
  total e h = record { value = λ z w f g. rw e (plus (2 ^ 52) z w c v f g h) }

-- the low 48 bits of a sum are those of the raised sum
mod48 : (z : ℤ) (r : ℕ) → Up (2 ^ 52) z r → mod_z z (2 ^ 48) ≡ r % 2 ^ 48
mod48 (pos n) r u = omega arith
mod48 (negsuc n) r u = omega arith

module _ (k : Mode) (s : ℕ) where
  pub outside-unsigned : unsigned k ≡ true → IsOutside k s (nat_lt s 0x10_0000_0000_0000 || nat_le 0x11_0000_0000_0000 s)
  outside-unsigned e = record { value = λ z u. rw e (sym (out-whole (2 ^ 52) (2 ^ 48) z s u)) }

  pub outside-signed : unsigned k ≡ false → IsOutside k s (nat_lt s 0xF_8000_0000_0000 || nat_le 0x10_8000_0000_0000 s)
  outside-signed e = record { value = λ z u. rw e (sym (out-half (2 ^ 52) (2 ^ 47) z s (omega arith) u)) }

  module _ (out : Bool) where
    pub at-limit : (v : ℕ) → (out && k.omc) ≡ true → v ≡ mod_z (limit k (nat_lt s 0x10_0000_0000_0000)) (2 ^ 48) → IsStored k out s v
    at-limit v e q = record { value = λ z u. rw (e, up-negative (2 ^ 52) z s u) q }

    pub as_it_is : (out && k.omc) ≡ false → IsStored k out s (s % 0x1_0000_0000_0000)
    as_it_is e = record { value = λ z u. rw (e, mod48 z s u) refl }

-- ---- the parts put together: o, a, p, f and r are what the code finds

pub with_sum-is : (k : Mode) (m i s : ℕ) (over o : Bool) (a : ℕ) (p : Bool) (f : ℕ)
    → IsOutside k s o → IsStored k (over || o) s a → p ≡ pav m i → f ≡ with_flags k m i ((over || o) || p) a
    → IsWithSum k m i over s (record { macsr = f; acc = a })
unfolding with_sum
with_sum-is k m i s over o a p f ho ha ep ef = record { value = λ z u e em. rw (em, ef, ep, ha.value z u, ho.value z u) }

-- the same, where one test finds both overflows
pub with_sum-by : (k : Mode) (m i s : ℕ) (over out : Bool) (a f : ℕ)
    → ((z : ℤ) → Up (2 ^ 52) z s → out ≡ (over || not (in_range k z))) → IsStored k out s a → f ≡ with_flags k m i (out || pav m i) a
    → IsWithSum k m i over s (record { macsr = f; acc = a })
unfolding with_sum
with_sum-by k m i s over out a f ho ha ef = record { value = λ z u e em. rw (em, ef, ha.value z u, ho z u) }

set_same : (l : List ℕ) (n : ℕ) → slice_set l n (slice_index l n) ≡ l
set_same [] n = refl
set_same (x ∷ l) zero = refl
set_same (x ∷ l) (suc n) = ap (λ (t : List ℕ). x ∷ t) (set_same l n)

module _ (m a i s : ℕ) (sub : Bool) (x y : ℕ) (k : Mode) (h : Bool) (ek : k ≡ mode_of m) (eh : h ≡ pav m i) where
  pub stays : (k.omc && h) ≡ true → IsSummed m a i s sub x y (record { macsr = m; acc = a })
  unfolding accumulate with_acc acc_of
  stays t = record { value = λ e em ea. rw (em, ← ek, ← eh, t, ea, set_same e.acc (i % 4), ← em) }

  module _ (t : (k.omc && h) ≡ false) (p : Raised) (c q : ℕ) (r : AfterSum) (hp : IsScaledProduct k s x y p)
      (hc : IsValue k a c) (hq : IsSum sub c p.value q) (hr : IsWithSum k m i p.over q r) where
    sum_up : Up (2 ^ 52) (far_sum k s sub x y a) q
    sum_up = hq.value (value_of k a) (scaled (scale_of k s) (far_product k x y)) hc.value hp.value

    at_unit : (e : Emac) → e.macsr ≡ m → a ≡ acc_of e i → with_acc i r.macsr r.acc e ≡ accumulate e i s sub x y
    unfolding accumulate
    at_unit e em ea =
        let fk : k ≡ mode_of e.macsr = ek ∙ ap mode_of (sym em) in
        let fh : h ≡ pav e.macsr i = eh ∙ ap (λ (n : ℕ). pav n i) (sym em) in
        let f : ℤ = far_sum k s sub x y a in
        rw (← fk, ← fh, t, ← ea)
        (hr.value f sum_up e em ∙ ap (λ (b : Bool). with_sum k e i b (negative f) f) hp.over ∙ far_sum-is k e i s sub x y a c hc)

    pub sums : IsSummed m a i s sub x y r
    sums = record { value = at_unit }
