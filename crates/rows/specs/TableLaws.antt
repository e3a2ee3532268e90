-- Laws for any table of rows, a list of values and a list of masks: two masks in either order, tests that are computed over the lists,
-- and what they show of each word. Assumes nothing.
use Rattle.std.specs.Prelude.{◌≡◌, refl, Bool, true, false, List, [], ◌∷◌, ℕ, zero, suc, ◌+◌, ◌*◌, ◌/◌, ◌%◌, ◌≤◌, ◌<◌, min, T, eqb, ltb, length, get_or, drop}
use Rattle.std.proofs.Common.{sym, ap, ap₂, ◌∙◌, subst, suc-le-suc, le_of_suc-le-suc, not-suc-le-zero, zero-lt-suc, arith, eq-eqb, eqb-true, eqb→eq, ltb→lt}
use Rattle.std.proofs.Math.Decide.{dec_lt}
use Rattle.std.proofs.lemmas.Bool.{eqb-false}
use Rattle.std.proofs.Math.Arith.{bin_ind, digits_mod}
use Rattle.std.specs.Int.Bits.{bit_and, and_step, and_zero_r}
use Rattle.std.proofs.lemmas.Nat.{and_shr, and_mod}
use Rattle.instructions.specs.Rows.{ones_in, first_fit}

-- ---- masks

-- the lowest digit of a masked number
odd : (a b : ℕ) → bit_and a b % 2 ≡ min (a % 2) (b % 2)
odd a b = ap (λ (x : ℕ). x % 2) (and_step a b) ∙ digits_mod (bit_and (a / 2) (b / 2)) (omega arith)

twice : (n a b : ℕ)
    → bit_and (bit_and n a) b ≡ bit_and (bit_and (n / 2) (a / 2)) (b / 2) * 2 + min (min (n % 2) (a % 2)) (b % 2)
twice n a b =
    and_step (bit_and n a) b ∙ ap₂ (λ (x y : ℕ). bit_and x (b / 2) * 2 + min y (b % 2)) (and_shr n a 1) (odd n a)

min_swap : (x y z : ℕ) → min (min x y) z ≡ min (min x z) y
min_swap x y z = omega arith

-- two masks, one after the other, in either order
pub swap : (w a b : ℕ) → bit_and (bit_and w a) b ≡ bit_and (bit_and w b) a
swap =
    bin_ind (λ (n : ℕ). (a b : ℕ) → bit_and (bit_and n a) b ≡ bit_and (bit_and n b) a) (λ a b. refl)
    (λ n ih a b.
    twice n a b ∙ ap₂ (λ (x y : ℕ). x * 2 + y) (ih (a / 2) (b / 2)) (min_swap (n % 2) (a % 2) (b % 2))
    ∙ sym (twice n b a))

-- two rows that fit one word agree where both fix its bits
pub agree : (w v m x y : ℕ) → bit_and w m ≡ v → bit_and w y ≡ x → bit_and v y ≡ bit_and x m
agree w v m x y p q = ap (λ (n : ℕ). bit_and n y) (sym p) ∙ swap w m y ∙ ap (λ (n : ℕ). bit_and n m) q

-- a masked number in its low six bits and those above them
pub tens : (w v m : ℕ) → bit_and w m ≡ v → bit_and (w / 64) (m / 64) ≡ v / 64
tens w v m h = sym (and_shr w m 6) ∙ ap (λ (x : ℕ). x / 64) h

pub sixes : (w v m : ℕ) → bit_and w m ≡ v → bit_and (w % 64) (m % 64) ≡ v % 64
sixes w v m h = sym (and_mod w m 6) ∙ ap (λ (x : ℕ). x % 64) h

pub both : (w v m : ℕ) → bit_and (w / 64) (m / 64) ≡ v / 64 → bit_and (w % 64) (m % 64) ≡ v % 64 → bit_and w m ≡ v
both w v m h l =
    let top : bit_and w m / 64 ≡ v / 64 = and_shr w m 6 ∙ h in
    let low : bit_and w m % 64 ≡ v % 64 = and_mod w m 6 ∙ l in
    omega arith

-- a mask that fixes none of the low six bits asks the top ten alone
pub block : (w v m : ℕ) → m % 64 ≡ 0 → v % 64 ≡ 0 → bit_and (w / 64) (m / 64) ≡ v / 64 → bit_and w m ≡ v
block w v m hm hv h = both w v m h (ap (bit_and (w % 64)) hm ∙ and_zero_r (w % 64) ∙ sym hv)

-- ---- a test at each number below n

abbrev pub all_below : (ℕ → Bool) → ℕ → Bool
all_below f zero = true
all_below f (suc n) = elim (f n) [ true ↦ all_below f n | false ↦ false ]

-- both tests of two
pub keep : (a b : Bool) → T (elim a [ true ↦ b | false ↦ false ]) → T a × T b
keep true b t = (tt, t)
keep false b t = absurd t

last : (f : ℕ → Bool) (n k : ℕ) → T (f n) → ((j : ℕ) → j < n → T (f j)) → Dec (k < n) → k < suc n → T (f k)
last f n k t more (yes l) h = more k l
last f n k t more (no l) h = subst (λ (m : ℕ). T (f m)) (omega arith) t

pub below : (f : ℕ → Bool) (n : ℕ) → T (all_below f n) → (k : ℕ) → k < n → T (f k)
below f zero t k h = absurd (not-suc-le-zero h)
below f (suc n) t k h =
    last f n k (keep (f n) (all_below f n) t).0 (below f n (keep (f n) (all_below f n) t).1) (dec_lt k n) h

-- ---- two rows fit one word only if the first has all the other's fixed bits and more

abbrev apart : ℕ → ℕ → ℕ → ℕ → Bool
apart v m x y =
    elim (eqb (bit_and v y) (bit_and x m)) [
      | true ↦ elim (eqb (bit_and m y) y) [ true ↦ ltb (ones_in 16 y) (ones_in 16 m) | false ↦ false ]
      | false ↦ true
    ]

abbrev apart_from : ℕ → ℕ → List ℕ → List ℕ → Bool
apart_from v m [] ms = true
apart_from v m (x ∷ vs) [] = true
apart_from v m (x ∷ vs) (y ∷ ms) = elim (apart v m x y) [ true ↦ apart_from v m vs ms | false ↦ false ]

abbrev pub all_apart : List ℕ → List ℕ → Bool
all_apart [] ms = true
all_apart (v ∷ vs) [] = true
all_apart (v ∷ vs) (m ∷ ms) = elim (apart_from v m vs ms) [ true ↦ all_apart vs ms | false ↦ false ]

from_at : (v m : ℕ) (vs ms : List ℕ) → T (apart_from v m vs ms) → (k : ℕ) → k < length vs → k < length ms
    → T (apart v m (get_or vs k 0) (get_or ms k 0))
from_at v m [] ms t k h l = absurd (not-suc-le-zero h)
from_at v m (x ∷ vs) [] t k h l = absurd (not-suc-le-zero l)
from_at v m (x ∷ vs) (y ∷ ms) t zero h l = (keep (apart v m x y) (apart_from v m vs ms) t).0
from_at v m (x ∷ vs) (y ∷ ms) t (suc k) h l =
    from_at v m vs ms (keep (apart v m x y) (apart_from v m vs ms) t).1 k (le_of_suc-le-suc h) (le_of_suc-le-suc l)

apart-at : (vs ms : List ℕ) → T (all_apart vs ms) → (i j : ℕ) → i < j → j < length vs → j < length ms
    → T (apart (get_or vs i 0) (get_or ms i 0) (get_or vs j 0) (get_or ms j 0))
apart-at [] ms t i j e h l = absurd (not-suc-le-zero h)
apart-at (v ∷ vs) [] t i j e h l = absurd (not-suc-le-zero l)
apart-at (v ∷ vs) (m ∷ ms) t i zero e h l = absurd (not-suc-le-zero e)
apart-at (v ∷ vs) (m ∷ ms) t zero (suc j) e h l =
    from_at v m vs ms (keep (apart_from v m vs ms) (all_apart vs ms) t).0 j (le_of_suc-le-suc h) (le_of_suc-le-suc l)
apart-at (v ∷ vs) (m ∷ ms) t (suc i) (suc j) e h l =
    apart-at vs ms (keep (apart_from v m vs ms) (all_apart vs ms) t).1 i j (le_of_suc-le-suc e) (le_of_suc-le-suc h)
    (le_of_suc-le-suc l)

nested_of : (a b c : Bool) → T (elim a [ true ↦ elim b [ true ↦ c | false ↦ false ] | false ↦ true ]) → a ≡ true → T b × T c
nested_of true b c t e = keep b c t
nested_of false b c t e = let z : ◌≡◌ {A = ℕ} 0 1 = cc in absurd (not-one z)
  where
    not-one : ◌≡◌ {A = ℕ} 0 1 → ⊥
    not-one z = omega arith

pub nested : (vs ms : List ℕ) → T (all_apart vs ms) → (w i j : ℕ) → i < j → j < length vs → j < length ms
    → bit_and w (get_or ms i 0) ≡ get_or vs i 0 → bit_and w (get_or ms j 0) ≡ get_or vs j 0
    → (bit_and (get_or ms i 0) (get_or ms j 0) ≡ get_or ms j 0) × (ones_in 16 (get_or ms j 0) < ones_in 16 (get_or ms i 0))
nested vs ms t w i j e h l p q =
    let v = get_or vs i 0 in
    let m = get_or ms i 0 in
    let x = get_or vs j 0 in
    let y = get_or ms j 0 in
    let b = nested_of (eqb (bit_and v y) (bit_and x m)) (eqb (bit_and m y) y) (ltb (ones_in 16 y) (ones_in 16 m)) (apart-at vs ms t i j e h l) (eq-eqb _ _ (agree w v m x y p q)) in
    (eqb→eq (bit_and m y) y b.0, ltb→lt (ones_in 16 y) (ones_in 16 m) b.1)

-- ---- the first row that fits

pub found : (w : ℕ) (vs ms : List ℕ) → first_fit w vs ms < length vs → length vs ≤ length ms
    → bit_and w (get_or ms (first_fit w vs ms) 0) ≡ get_or vs (first_fit w vs ms) 0
found w [] ms h l = absurd (not-suc-le-zero h)
found w (v ∷ vs) [] h l = absurd (not-suc-le-zero l)
found w (v ∷ vs) (m ∷ ms) h l = go (λ k. found w vs ms k (le_of_suc-le-suc l)) (eqb (bit_and w m) v) refl h
  where
    go : (first_fit w vs ms < length vs → bit_and w (get_or ms (first_fit w vs ms) 0) ≡ get_or vs (first_fit w vs ms) 0)
        → (b : Bool) → eqb (bit_and w m) v ≡ b → elim b [ true ↦ 0 | false ↦ suc (first_fit w vs ms) ] < suc (length vs)
        → bit_and w (get_or (m ∷ ms) (elim b [ true ↦ 0 | false ↦ suc (first_fit w vs ms) ]) 0)
        ≡ get_or (v ∷ vs) (elim b [ true ↦ 0 | false ↦ suc (first_fit w vs ms) ]) 0
    go rest true e h' = eqb-true (bit_and w m) v e
    go rest false e h' = rest (le_of_suc-le-suc h')

-- no row before it fits
pub unfit : (w : ℕ) (vs ms : List ℕ) (k : ℕ) → k < first_fit w vs ms → bit_and w (get_or ms k 0) ≡ get_or vs k 0 → ⊥
unfit w [] ms k h e = not-suc-le-zero h
unfit w (v ∷ vs) [] k h e = not-suc-le-zero h
unfit w (v ∷ vs) (m ∷ ms) k h e = go (unfit w vs ms) (eqb (bit_and w m) v) refl k h e
  where
    go : ((j : ℕ) → j < first_fit w vs ms → bit_and w (get_or ms j 0) ≡ get_or vs j 0 → ⊥)
        → (b : Bool) → eqb (bit_and w m) v ≡ b → (j : ℕ) → j < elim b [ true ↦ 0 | false ↦ suc (first_fit w vs ms) ]
        → bit_and w (get_or (m ∷ ms) j 0) ≡ get_or (v ∷ vs) j 0 → ⊥
    go rest true q j l p = not-suc-le-zero l
    go rest false q zero l p = eqb-false (bit_and w m) v q p
    go rest false q (suc j) l p = rest j (le_of_suc-le-suc l) p

-- ---- some row fits, by the word's top ten bits: one that fixes none of the low six

abbrev whole : ℕ → ℕ → ℕ → Bool
whole h v m =
    elim (eqb (m % 64) 0) [
      | true ↦ elim (eqb (v % 64) 0) [ true ↦ eqb (bit_and h (m / 64)) (v / 64) | false ↦ false ]
      | false ↦ false
    ]

whole-fits : (w v m : ℕ) → T (whole (w / 64) v m) → bit_and w m ≡ v
whole-fits w v m t =
    let a = keep (eqb (m % 64) 0) (elim (eqb (v % 64) 0) [ true ↦ eqb (bit_and (w / 64) (m / 64)) (v / 64) | false ↦ false ]) t in
    let b = keep (eqb (v % 64) 0) (eqb (bit_and (w / 64) (m / 64)) (v / 64)) a.1 in
    block w v m (eqb→eq _ _ a.0) (eqb→eq _ _ b.0) (eqb→eq _ _ b.1)

abbrev pub some_whole : ℕ → List ℕ → List ℕ → Bool
some_whole h [] ms = false
some_whole h (v ∷ vs) [] = false
some_whole h (v ∷ vs) (m ∷ ms) = elim (whole h v m) [ true ↦ true | false ↦ some_whole h vs ms ]

more : (b c : Bool) → T c → T (elim b [ true ↦ true | false ↦ c ])
more true c t = tt
more false c t = t

-- one of the rows after the first n is one of the rows
pub some_later : (h n : ℕ) (vs ms : List ℕ) → T (some_whole h (drop n vs) (drop n ms)) → T (some_whole h vs ms)
some_later h zero vs ms t = t
some_later h (suc n) [] ms t = t
some_later h (suc n) (v ∷ vs) [] t = absurd (none (drop n vs) t)
  where
    none : (l : List ℕ) → T (some_whole h l []) → ⊥
    none [] u = u
    none (x ∷ l) u = u
some_later h (suc n) (v ∷ vs) (m ∷ ms) t = more (whole h v m) (some_whole h vs ms) (some_later h n vs ms t)

pub some_fits : (w : ℕ) (vs ms : List ℕ) → T (some_whole (w / 64) vs ms) → first_fit w vs ms < length vs
some_fits w [] ms t = absurd t
some_fits w (v ∷ vs) [] t = absurd t
some_fits w (v ∷ vs) (m ∷ ms) t = go (some_fits w vs ms) (eqb (bit_and w m) v) refl
  where
    past : (b : Bool) → whole (w / 64) v m ≡ b → eqb (bit_and w m) v ≡ false
        → T (elim b [ true ↦ true | false ↦ some_whole (w / 64) vs ms ]) → T (some_whole (w / 64) vs ms)
    past true q e u = absurd (eqb-false (bit_and w m) v e (whole-fits w v m (subst T (sym q) tt)))
    past false q e u = u

    go : (T (some_whole (w / 64) vs ms) → first_fit w vs ms < length vs) → (b : Bool) → eqb (bit_and w m) v ≡ b
        → elim b [ true ↦ 0 | false ↦ suc (first_fit w vs ms) ] < suc (length vs)
    go rest true e = zero-lt-suc (length vs)
    go rest false e = suc-le-suc (rest (past (whole (w / 64) v m) refl e t))
