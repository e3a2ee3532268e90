-- One turn of the loop over the registers, i of them read, and what holds after the last. Assumes nothing.
use Prim.Native.Nat.{ℕ, suc, ◌+◌, ◌*◌, ◌-◌, ◌%◌, ◌^◌, ◌≤◌, ◌<◌}
use mathlib.Core.Path.{◌≡◌, refl}
use mathlib.Core.List.{List, [], ◌∷◌, ◌++◌, append_assoc, append-nil}
use native.Mathlib.Omega.{arith}
use native.Mathlib.Numerals.{add-one}
use lib.ListN.{length, get_or, take, set}
use lib.Seq.{take_all, take-suc-set}
use Rattle.manual.specs.Memory.{value_at}
use Rattle.manual.specs.Block.{registers_at, longs_at, macsr_at, mask_at, acc_number, emac_at}

pub longs-on : (i : ℕ) → i < 16 → (b g w : List ℕ) (v : ℕ) → length g ≡ 16 → v ≡ value_at b (registers_at + i * 4) 4
    → take i g ++ longs_at b (16 - i) (registers_at + i * 4) ≡ w → take (i + 1) (set g i v) ++ longs_at b (16 - (i + 1)) (registers_at + (i + 1) * 4) ≡ w
unfolding longs_at
longs-on i h b g w v l e q =
    let t : take (i + 1) (set g i v) ≡ take i g ++ (v ∷ []) = rw add-one (take-suc-set g i v (omega arith)) in
    let place : registers_at + (i + 1) * 4 ≡ registers_at + i * 4 + 4 = omega arith in
    let left : 16 - i ≡ suc (16 - (i + 1)) = omega arith in
    rw (t, place, append_assoc, e) (rw left at q)

pub longs-all : (i : ℕ) → 16 ≤ i → (b g w : List ℕ) (a : ℕ) → length g ≡ 16 → take i g ++ longs_at b (16 - i) a ≡ w → g ≡ w
unfolding longs_at
longs-all i h b g w a l q =
    let none : 16 - i ≡ 0 = omega arith in
    rw (none, take_all i g (omega arith), append-nil) at q

-- ---- the accumulators

four : (l : List ℕ) → length l ≡ 4 → (a b c d : ℕ) → get_or l 0 0 ≡ a → get_or l 1 0 ≡ b → get_or l 2 0 ≡ c → get_or l 3 0 ≡ d → l ≡ a ∷ b ∷ c ∷ d ∷ []
four [] e a b c d p q r s = absurd (let t : ◌≡◌ {A = ℕ} 0 4 = e in omega arith)
four (x ∷ []) e a b c d p q r s = absurd (let t : ◌≡◌ {A = ℕ} 1 4 = e in omega arith)
four (x ∷ y ∷ []) e a b c d p q r s = absurd (let t : ◌≡◌ {A = ℕ} 2 4 = e in omega arith)
four (x ∷ y ∷ z ∷ []) e a b c d p q r s = absurd (let t : ◌≡◌ {A = ℕ} 3 4 = e in omega arith)
four (x ∷ y ∷ z ∷ w ∷ []) e a b c d p q r s = rw (p, q, r, s) refl
four (x ∷ y ∷ z ∷ w ∷ v ∷ l) e a b c d p q r s = absurd (more (length l) e)
  where
    more : (n : ℕ) → suc (suc (suc (suc (suc n)))) ≡ 4 → ⊥
    more n t = omega arith

pub emac-is : (m l : List ℕ) (macsr mask : ℕ) → macsr ≡ value_at m macsr_at 4 → mask ≡ value_at m mask_at 4 → length l ≡ 4 → (a b c d : ℕ)
    → get_or l 0 0 ≡ a → get_or l 1 0 ≡ b → get_or l 2 0 ≡ c → get_or l 3 0 ≡ d
    → a ≡ acc_number m 0 % 2 ^ 48 → b ≡ acc_number m 1 % 2 ^ 48 → c ≡ acc_number m 2 % 2 ^ 48 → d ≡ acc_number m 3 % 2 ^ 48
    → record { macsr = macsr; mask = mask; acc = l } ≡ emac_at m
unfolding emac_at
emac-is m l macsr mask es ek e a b c d p q r s pa qb rc sd = rw (es, ek, four l e a b c d p q r s, pa, qb, rc, sd)
