-- What the table of the top ten bits says of each word: an entry that names a row names the row of every word with those bits, and
-- an entry that names none is one where two such words take different rows. So a word's row by the table is its row. Assumes nothing.
use Rattle.std.specs.Prelude.{◌≡◌, refl, Bool, true, false, cond, [], map, ℕ, zero, suc, ◌+◌, ◌-◌, ◌*◌, ◌/◌, ◌%◌, ◌≤◌, ◌<◌, T, eqb, ltb, length, get_or}
use Rattle.std.proofs.Common.{sym, ap, ◌∙◌, subst, add-zero, add-suc, suc-add, zero-add, le_refl, le_of_suc-le-suc, not-suc-le-zero, arith, le-ltb, lt-ltb, eqb-true, eqb→eq}
use Rattle.std.proofs.lemmas.Bool.{false≢true, eqb-false}
use Rattle.std.proofs.Math.Decide.{dec_lt}
use Rattle.std.specs.Int.Bits.{bit_and, and_zero_r}
use Rattle.std.proofs.Math.ListN.{get_or-map}
use Rattle.instructions.specs.Rows.{values, masks, value, mask, row_count, Fits, row_of}
use Rattle.rows.specs.TableLaws.{tens, sixes, both, block, all_below, below, found, unfit}
use Rattle.rows.specs.RowLaws.{row_of_lt, row_of-fits, row_of-first, row_of_mod}
use Rattle.rows.specs.Top.{possible, top_of, up_to, top_rows, TwoRows, row_by, Sound}

-- ---- the tests, each computed once over the rows

-- of its low six bits, a row's value has none that the row does not fix
own_low : ℕ → Bool
own_low r = eqb (bit_and (value r % 64) (mask r % 64)) (value r % 64)

all_own : T (all_below own_low row_count)
unfolding own_low
all_own = tt

own-low : (r : ℕ) → r < row_count → bit_and (value r % 64) (mask r % 64) ≡ value r % 64
unfolding own_low
own-low r l = eqb→eq _ _ (below own_low row_count all_own r l)

-- a row that fixes some of them does not fit the word that has the others of its value there
opposed : ℕ → Bool
opposed r =
    elim (eqb (mask r % 64) 0) [
      | true ↦ true
      | false ↦ elim (eqb (bit_and (63 - value r % 64) (mask r % 64)) (value r % 64)) [ true ↦ false | false ↦ true ]
    ]

all-opposed : T (all_below opposed row_count)
unfolding opposed
all-opposed = tt

neither : (a b : Bool) → T (elim a [ true ↦ true | false ↦ elim b [ true ↦ false | false ↦ true ] ]) → a ≡ false → b ≡ false
neither true b t h = absurd (false≢true (sym h))
neither false true t h = absurd t
neither false false t h = refl

opposite : (r : ℕ) → r < row_count → eqb (mask r % 64) 0 ≡ false → bit_and (63 - value r % 64) (mask r % 64) ≡ value r % 64 → ⊥
unfolding opposed
opposite r l h = eqb-false _ _ (neither (eqb (mask r % 64) 0) (eqb (bit_and (63 - value r % 64) (mask r % 64)) (value r % 64)) (below opposed row_count all-opposed r l) h)

-- ---- the first row that the ten bits leave possible

fits-short : (h r : ℕ) → bit_and h (mask r / 64) ≡ value r / 64
    → bit_and h (get_or (map (λ m. m / 64) masks) r 0) ≡ get_or (map (λ v. v / 64) values) r 0
fits-short h r e = rw (get_or-map (λ m. m / 64) masks r 0, get_or-map (λ v. v / 64) values r 0) e

-- a row before it fits no word with these bits
none_before : (w k : ℕ) → k < possible (w / 64) → Fits w k → ⊥
none_before w k l f =
    unfit (w / 64) (map (λ v. v / 64) values) (map (λ m. m / 64) masks) k l (fits-short (w / 64) k (tens w (value k) (mask k) f))

-- each of 1,024 values leaves a row possible, for its words have rows
possible_lt : (h : ℕ) → h < 1024 → possible h < row_count
possible_lt h l = go (dec_lt (row_of (h * 64)) (possible h))
  where
    go : Dec (row_of (h * 64) < possible h) → possible h < row_count
    go (yes b) =
        let e : h * 64 / 64 ≡ h = omega arith in
        absurd (none_before (h * 64) (row_of (h * 64)) (rw e b) (row_of-fits (h * 64) (omega arith)))
    go (no b) = omega (arith, row_of_lt (h * 64))

possible-tens : (h : ℕ) → possible h < row_count → bit_and h (mask (possible h) / 64) ≡ value (possible h) / 64
possible-tens h l =
    let f = found h (map (λ v. v / 64) values) (map (λ m. m / 64) masks) l (le_refl row_count) in
    rw (get_or-map (λ m. m / 64) masks (possible h) 0, get_or-map (λ v. v / 64) values (possible h) 0) at f

-- where it fits a word with these bits it is the word's row
possible-is : (w : ℕ) → w < 0x1_0000 → Fits w (possible (w / 64)) → possible (w / 64) ≡ row_of w
possible-is w l f = go (dec_lt (possible (w / 64)) (row_of w)) (dec_lt (row_of w) (possible (w / 64)))
  where
    go : Dec (possible (w / 64) < row_of w) → Dec (row_of w < possible (w / 64)) → possible (w / 64) ≡ row_of w
    go (yes b) d = absurd (row_of-first w (possible (w / 64)) l b f)
    go (no b) (yes d) = absurd (none_before w (row_of w) d (row_of-fits w l))
    go (no b) (no d) = omega arith

-- ---- what an entry says

-- an entry that names a row names the row of each word of 16 bits with the entry's bits
settled-low : (w : ℕ) → w < 0x1_0000 → top_of (w / 64) < row_count → top_of (w / 64) ≡ row_of w
unfolding top_of
settled-low w l = go (possible (w / 64)) refl (eqb (mask (possible (w / 64)) % 64) 0) refl
  where
    go : (r : ℕ) → possible (w / 64) ≡ r → (b : Bool) → eqb (mask r % 64) 0 ≡ b → cond b r row_count < row_count → cond b r row_count ≡ row_of w
    go r p true e h =
        let free : mask r % 64 ≡ 0 = eqb-true _ _ e in
        let none : value r % 64 ≡ 0 = sym (own-low r h) ∙ ap (bit_and (value r % 64)) free ∙ and_zero_r (value r % 64) in
        let tops : bit_and (w / 64) (mask r / 64) ≡ value r / 64 = rw p at (possible-tens (w / 64) (rw p h)) in
        sym p ∙ possible-is w l (rw p (block w (value r) (mask r) free none tops))
    go r p false e h = absurd (omega arith)

-- of any word, whatever it has above 16 bits
pub settled : (w : ℕ) → top_of (w / 64 % 1024) < row_count → top_of (w / 64 % 1024) ≡ row_of w
settled w h =
    let i : w / 64 % 1024 ≡ w % 0x1_0000 / 64 = omega arith in
    rw i (settled-low (w % 0x1_0000) (omega arith) (rw i at h) ∙ row_of_mod w)

-- an entry that names none has words of different rows: the first row that is possible fits one and not the other
pub unsettled : (h : ℕ) → h < 1024 → row_count ≤ top_of h → TwoRows h
unfolding top_of
unsettled h l = go (possible h) refl (eqb (mask (possible h) % 64) 0) refl
  where
    go : (r : ℕ) → possible h ≡ r → (b : Bool) → eqb (mask r % 64) 0 ≡ b → row_count ≤ cond b r row_count → TwoRows h
    go r p true e k = absurd (omega (arith, possible_lt h l))
    go r p false e k =
        let is : r < row_count = rw p at (possible_lt h l) in
        let one : ℕ = h * 64 + value r % 64 in
        let other : ℕ = h * 64 + (63 - value r % 64) in
        let a : one / 64 ≡ h = omega arith in
        let b : one % 64 ≡ value r % 64 = omega arith in
        let c : other / 64 ≡ h = omega arith in
        let d : other % 64 ≡ 63 - value r % 64 = omega arith in
        let tops : bit_and h (mask r / 64) ≡ value r / 64 = rw p at (possible-tens h (possible_lt h l)) in
        let f : Fits one r = both one (value r) (mask r) (rw a tops) (rw b (own-low r is)) in
        let q : r ≡ row_of one = rw (a, p) at (possible-is one (omega arith) (rw (a, p) f)) in
        record {
          one = one;
          other = other;
          one_has = a;
          other_has = c;
          apart = λ same.
              let g : Fits other r = subst (λ (k : ℕ). Fits other k) (sym (q ∙ same)) (row_of-fits other (omega arith)) in
              opposite r is e (rw d at (sixes other (value r) (mask r) g));
        }

-- ---- the engines

at : (f : ℕ → ℕ) (i n k d : ℕ) → k < n → get_or (map f (up_to i n)) k d ≡ f (i + k)
at f i zero k d h = absurd (not-suc-le-zero h)
at f i (suc n) zero d h = ap f (sym (add-zero i))
at f i (suc n) (suc k) d h = at f (suc i) n k d (le_of_suc-le-suc h) ∙ ap f (suc-add i k ∙ sym (add-suc i k))

pub entries : length top_rows ≡ 1024
unfolding top_rows
entries = refl

pub entry : (h : ℕ) → h < 1024 → get_or top_rows h row_count ≡ top_of h
unfolding top_rows
entry h l = at top_of 0 1024 h row_count l ∙ ap top_of (zero-add h)

pub top_sound : Sound top_rows
unfolding row_by
top_sound w = rw (entry (w / 64 % 1024) (omega arith)) (go (dec_lt (top_of (w / 64 % 1024)) row_count))
  where
    go : Dec (top_of (w / 64 % 1024) < row_count) → cond (ltb (top_of (w / 64 % 1024)) row_count) (top_of (w / 64 % 1024)) (row_of w) ≡ row_of w
    go (yes l) = rw (lt-ltb (top_of (w / 64 % 1024)) row_count l) (settled w l)
    go (no n) = rw (le-ltb (top_of (w / 64 % 1024)) row_count (omega (arith, n)))

-- an empty table leaves every word to the rows
pub empty_sound : Sound []
unfolding row_by
empty_sound w = refl
