-- What each way of the moves to accumulators, extensions and MACSR is, in plain numbers. Assumes nothing.
use Rattle.std.proofs.Common.{◌≡◌, ℕ, zero, suc, ◌+◌, ◌-◌, ◌*◌, ◌%◌, ◌^◌, ◌<◌, ◌≤◌, Bool, true, false, List, [], ◌∷◌, map, length, get_or, pos, neg_ℤ, refl, ap, sym, ◌∙◌, arith}
use Rattle.manual.specs.declared.Mode.{Mode}
use Rattle.manual.specs.declared.Emac.{Emac}
use Rattle.manual.specs.Word.{mod_z}
use Rattle.manual.specs.Emac.{fractional, acc_of, with_acc, reinterpreted, set_macsr, loaded_as, with_ext}
use Rattle.emac.specs.ProductLaws.{long_pos, long-neg}

-- ---- a long as the mode reads it

mod_neg : (n : ℕ) → 0 < n → n < 2 ^ 48 → mod_z (neg_ℤ (pos n)) (2 ^ 48) ≡ 2 ^ 48 - n
mod_neg zero h k = omega arith
mod_neg (suc n) h k = omega arith

module _ (k : Mode) (v : ℕ) (h : v < 2 ^ 32) where
  pub load_fi_pos : k.fi ≡ true → v < 2 ^ 31 → v * 0x100 ≡ mod_z (loaded_as k v) (2 ^ 48)
  load_fi_pos f l = rw (f, long_pos v l) (omega arith)

  pub load_fi_neg : k.fi ≡ true → 2 ^ 31 ≤ v → v * 0x100 + 0xFF00_0000_0000 ≡ mod_z (loaded_as k v) (2 ^ 48)
  load_fi_neg f l = rw (f, long-neg v l h, mod_neg (suc (2 ^ 32 - suc v) * 0x100) (omega arith) (omega arith)) (omega arith)

  pub load-su : k.fi ≡ false → k.su ≡ true → v ≡ mod_z (loaded_as k v) (2 ^ 48)
  load-su f s = rw (f, s) (omega arith)

  pub load_pos : k.fi ≡ false → k.su ≡ false → v < 2 ^ 31 → v ≡ mod_z (loaded_as k v) (2 ^ 48)
  load_pos f s l = rw (f, s, long_pos v l) (omega arith)

  pub load-neg : k.fi ≡ false → k.su ≡ false → 2 ^ 31 ≤ v → v + 0xFFFF_0000_0000 ≡ mod_z (loaded_as k v) (2 ^ 48)
  load-neg f s l = rw (f, s, long-neg v l h) (omega arith)

-- ---- the accumulator after i, where i + 1 could be more than a long

next-number : (i : ℕ) → (i % 4 + 1) % 4 ≡ (i + 1) % 4
next-number i = omega arith

pub acc-next : (e : Emac) (i : ℕ) → acc_of e (i % 4 + 1) ≡ acc_of e (i + 1)
unfolding acc_of
acc-next e i = rw (next-number i)

pub with_ext-next : (fi : Bool) (i ext : ℕ) (e : Emac) → with_ext fi (i % 4 + 1) ext e ≡ with_ext fi (i + 1) ext e
unfolding with_ext with_acc
with_ext-next fi i ext e = rw (acc-next e i, next-number i)

-- ---- a list of four

no : (n : ℕ) → suc (suc (suc (suc (suc n)))) ≡ 4 → ⊥
no n q = omega arith

four : (l : List ℕ) → length l ≡ 4 → l ≡ get_or l 0 0 ∷ get_or l 1 0 ∷ get_or l 2 0 ∷ get_or l 3 0 ∷ []
four [] e = absurd (let q : ◌≡◌ {A = ℕ} 0 4 = e in omega arith)
four (a ∷ []) e = absurd (let q : ◌≡◌ {A = ℕ} 1 4 = e in omega arith)
four (a ∷ b ∷ []) e = absurd (let q : ◌≡◌ {A = ℕ} 2 4 = e in omega arith)
four (a ∷ b ∷ c ∷ []) e = absurd (let q : ◌≡◌ {A = ℕ} 3 4 = e in omega arith)
four (a ∷ b ∷ c ∷ d ∷ []) e = refl
four (a ∷ b ∷ c ∷ d ∷ g ∷ l) e = absurd (no (length l) e)

-- the new accumulators are those of the old ones, one by one
pub set_macsr-is : (e : Emac) (v : ℕ) (o n : Bool) (l : List ℕ) → length e.acc ≡ 4 → length l ≡ 4 → o ≡ fractional e.macsr → n ≡ fractional (v % 0x1000)
    → (a b c d : ℕ) → get_or e.acc 0 0 ≡ a → get_or e.acc 1 0 ≡ b → get_or e.acc 2 0 ≡ c → get_or e.acc 3 0 ≡ d
    → (p q r s : ℕ) → get_or l 0 0 ≡ p → get_or l 1 0 ≡ q → get_or l 2 0 ≡ r → get_or l 3 0 ≡ s
    → p ≡ reinterpreted o n a → q ≡ reinterpreted o n b → r ≡ reinterpreted o n c → s ≡ reinterpreted o n d
    → record { macsr = v % 0x1000; mask = e.mask; acc = l } ≡ set_macsr e v
unfolding set_macsr
set_macsr-is e v o n l h k eo en a b c d ea eb ec ed p q r s ep eq er es fp fq fr fs =
    ap (λ (t : List ℕ). record { macsr = v % 0x1000; mask = e.mask; acc = t })
    (four l k ∙ rw (← eo, ← en, ep, eq, er, es, fp, fq, fr, fs, ← ea, ← eb, ← ec, ← ed) (ap (map (reinterpreted o n)) (sym (four e.acc h))))
