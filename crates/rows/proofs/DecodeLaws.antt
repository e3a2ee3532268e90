-- How a decoder finds a word's row: it is the row that fits where no row before it that could fit beside it does, and it is past
-- those that do not fit. Assumes nothing.
use mathlib.Core.Path.{◌≡◌, refl, sym, ap, ◌∙◌, subst}
use mathlib.Core.Bool.{Bool, true, false, not}
use Prim.Native.Nat.{ℕ, zero, suc, ◌+◌, ◌-◌, ◌/◌, ◌%◌, ◌≤◌, ◌<◌}
use native.Mathlib.Omega.{arith}
use native.Mathlib.Decide.{dec_lt}
use native.Mathlib.Nat.{add-zero}
use borrow.Author.Tests.{eq-eqb}
use lib.Bits.{bit_and, and_shr, and_mod, and_mask}
use lib.Dec.{T, eqb}
use Rattle.instructions.specs.Rows.{first_row, value, mask, Fits, row_of}
use Rattle.rows.specs.TableLaws.{agree, all_below, keep}
use Rattle.rows.specs.RowLaws.{Within, row_of-fits, row_of-first, row_of-in_line}

-- the two rows can fit one word
abbrev beside : ℕ → ℕ → Bool
beside q k = eqb (bit_and (value q) (mask k)) (bit_and (value k) (mask q))

abbrev Also : Bool → Type 0 → Type 0 → Type 0
Also true A B = A × B
Also false A B = B

-- of the d rows from n on, none that can fit beside row k fits the word
abbrev pub Clear : ℕ → ℕ → ℕ → ℕ → Type 0
Clear w k n zero = Unit {0}
Clear w k n (suc d) = Also (beside n k) (Fits w n → ⊥) (Clear w k (suc n) d)

head : (b : Bool) (A B : Type 0) → b ≡ true → Also b A B → A
head true A B e p = p.0
head false A B e p = let z : ◌≡◌ {A = ℕ} 0 1 = cc in absurd (not-one z)
  where
    not-one : ◌≡◌ {A = ℕ} 0 1 → ⊥
    not-one z = omega arith

tail : (b : Bool) (A B : Type 0) → Also b A B → B
tail true A B p = p.1
tail false A B p = p

clear_at : (w k n d q : ℕ) → Clear w k n d → n ≤ q → q < n + d → Fits w q → Fits w k → ⊥
clear_at w k n zero q c h l f g = omega arith
clear_at w k n (suc d) q c h l f g =
    go (λ m j. clear_at w k (suc n) d q (tail (beside n k) (Fits w n → ⊥) (Clear w k (suc n) d) c) m j f g) (dec_lt n q)
  where
    go : (suc n ≤ q → q < suc n + d → ⊥) → Dec (n < q) → ⊥
    go later (yes m) = later m (omega arith)
    go later (no m) =
        let e : q ≡ n = omega arith in
        let f' : Fits w n = subst (λ (x : ℕ). Fits w x) e f in
        head (beside n k) (Fits w n → ⊥) (Clear w k (suc n) d)
        (eq-eqb _ _ (agree w (value n) (mask n) (value k) (mask k) f' g)) c f'

pub taken : {line n w k : ℕ} → Within line n w → Fits w k → Clear w k (first_row line + n) (k - (first_row line + n)) → k ≡ row_of w
taken {line} {n} {w} {k} h f c = go (dec_lt k (row_of w)) (dec_lt (row_of w) k)
  where
    go : Dec (k < row_of w) → Dec (row_of w < k) → k ≡ row_of w
    go (yes l) d = absurd (row_of-first w k h.word l f)
    go (no l) (yes m) =
        absurd (clear_at w k (first_row line + n) (k - (first_row line + n)) (row_of w) c h.low (omega arith) (row_of-fits w h.word) f)
    go (no l) (no m) = omega arith

-- none of the d rows from n on fits the word
abbrev pub None : ℕ → ℕ → ℕ → Type 0
None w n zero = Unit {0}
None w n (suc d) = None w n d × (Fits w (n + d) → ⊥)

past_by : {line n w : ℕ} (d : ℕ) → Within line n w → None w (first_row line + n) d → Within line (n + d) w
past_by {line} {n} {w} zero h c = record { word = h.word; low = omega arith; high = h.high }
past_by {line} {n} {w} (suc d) h c = let b = past_by d h c.0 in go b (dec_lt (first_row line + n + d) (row_of w))
  where
    go : Within line (n + d) w → Dec (first_row line + n + d < row_of w) → Within line (n + suc d) w
    go b (yes l) = record { word = h.word; low = omega arith; high = h.high }
    go b (no l) =
        let q : row_of w ≡ first_row line + n + d = omega arith in
        absurd (c.1 (subst (λ (x : ℕ). Fits w x) q (row_of-fits w h.word)))

-- `past` and `last`, as `taken`, have their numbers from the goal, so that `search` finds what they ask among what a function knows.
-- None of the rows from n up to m fits
pub past : {line n m w : ℕ} → Within line n w → None w (first_row line + n) (m - n) → Within line m w
past {line} {n} {m} {w} h c =
    let b = past_by (m - n) h c in record { word = h.word; low = omega arith; high = h.high }

-- the line's last row, where none of those before it fits
pub last : {line n w k : ℕ} → Within line n w → None w (first_row line + n) (k - (first_row line + n)) → first_row (line + 1) ≡ suc k → k ≡ row_of w
last {line} {n} {w} {k} h c e = let b = past_by (k - (first_row line + n)) h c in omega arith

-- ---- ADDQ and SUBQ of a long to Dn: bits 7 to 3 are 10000

middle : (w m v : ℕ) → bit_and w m ≡ v → bit_and (w / 8 % 32) (m / 8 % 32) ≡ v / 8 % 32
middle w m v f = sym (and_mod (w / 8) (m / 8) 5) ∙ ap (λ (x : ℕ). x % 32) (sym (and_shr w m 3)) ∙ ap (λ (x : ℕ). x / 8 % 32) f

-- row q can fit a word that has them
abbrev of_long : ℕ → Bool
of_long q = eqb (bit_and 16 (mask q / 8 % 32)) (value q / 8 % 32)

apart : (w q : ℕ) → bit_and w 0xF0F8 ≡ 0x5080 → T (not (of_long q)) → Fits w q → ⊥
apart w q f t g =
    let k : 16 ≡ w / 8 % 32 % 32 = sym (middle w 0xF0F8 0x5080 f) ∙ and_mask (w / 8 % 32) 5 in
    let e : 16 ≡ w / 8 % 32 = omega arith in
    let h : of_long q ≡ true = eq-eqb _ _ (ap (λ (x : ℕ). bit_and x (mask q / 8 % 32)) e ∙ middle w (mask q) (value q) g) in
    subst (λ (x : Bool). T (not x)) h t

none_of : (w n d : ℕ) → bit_and w 0xF0F8 ≡ 0x5080 → T (all_below (λ q. not (of_long (n + q))) d) → None w n d
none_of w n zero f t = tt
none_of w n (suc d) f t =
    let k = keep (not (of_long (n + d))) (all_below (λ q. not (of_long (n + q))) d) t in
    (none_of w n d f k.1, apart w (n + d) f k.0)

pub long-addq : {w : ℕ} → Within 5 0 w → bit_and w 0xF0F8 ≡ 0x5080 → first_row 5 + 8 ≡ row_of w
long-addq {w} h f = last h (none_of w (first_row 5) 8 f tt) refl

-- ---- the word's line, by its four top bits

pub start : (line w : ℕ) → w < 0x1_0000 → w / 0x1000 ≡ line → Within line 0 w
start line w h e =
    let p = row_of-in_line w h in
    record {
      word = h;
      low = rw add-zero (subst (λ (x : ℕ). first_row x ≤ row_of w) e p.0);
      high = subst (λ (x : ℕ). row_of w < first_row (x + 1)) e p.1;
    }

-- none of the numbers below n, so at least n
abbrev pub Rest : ℕ → ℕ → Type 0
Rest zero k = Unit {0}
Rest (suc n) k = Rest n k × (k ≡ n → ⊥)

pub rest : (n k : ℕ) → Rest n k → n ≤ k
rest zero k r = omega arith
rest (suc n) k r = go (rest n k r.0) (dec_lt n k)
  where
    go : n ≤ k → Dec (n < k) → suc n ≤ k
    go h (yes b) = b
    go h (no b) = absurd (r.1 (omega arith))
