-- The row that a word takes: there is one, and one only, and `row_of` is it; and it is a row of the word's line.
-- Assumes nothing.
use Rattle.std.specs.Prelude.{◌≡◌, Bool, true, false, List, ℕ, ◌+◌, ◌*◌, ◌/◌, ◌%◌, ◌≤◌, ◌<◌, T, eqb, ltb, leb, drop}
use Rattle.std.proofs.Common.{sym, ap, ◌∙◌, subst, arith, le_refl, le_of_lt, le_of_eq, not-le_of_lt, mod-eq_of_lt, mod-lt, zero-lt-suc, le-leb, lt-ltb, eqb→eq, ltb→lt, leb→le}
use Rattle.std.proofs.lemmas.Bool.{false≢true}
use Rattle.std.proofs.Math.Nat.{mod-mod}
use Rattle.std.proofs.Math.Decide.{dec_lt}
use Rattle.std.specs.Int.Bits.{bit_and}
use Rattle.std.proofs.lemmas.Nat.{and_shr, and_mask}
use Rattle.std.proofs.Math.ListN.{get_or-eq_default}
use Rattle.manual.specs.declared.Emac.{Emac}
use Rattle.manual.specs.Memory.{Memory}
use Rattle.instructions.specs.Rows.{values, masks, value, mask, fixed_bits, row_count, first_row, Fits, IsRow, first_fit, row_of}
use Rattle.instructions.specs.Step.{instruction, of_row}
use Rattle.rows.specs.TableLaws.{all_below, keep, below, all_apart, nested, found, unfit, some_whole, some_later, some_fits}

-- ---- the tests, each computed once over the table

nesting : T (all_apart values masks)
nesting = tt

-- a line's rows cover each of its 64 values of the next six bits
abbrev covers : ℕ → List ℕ → List ℕ → Bool
covers h vs ms = all_below (λ b. some_whole (h + b) vs ms) 64

line_covered : ℕ → Bool
line_covered line = covers (line * 64) (drop (first_row line) values) (drop (first_row line) masks)

covered : T (all_below line_covered 16)
unfolding line_covered
covered = tt

-- a row fixes the four top bits, and stands among its line's
in_place : ℕ → Bool
in_place r =
    elim (eqb (mask r / 0x1000) 15) [
      | true ↦
          elim (leb (first_row (value r / 0x1000)) r) [ true ↦ ltb r (first_row (value r / 0x1000 + 1)) | false ↦ false ]
      | false ↦ false
    ]

placed : T (all_below in_place row_count)
unfolding in_place
placed = tt

-- a row that stands among a line's rows has the line's four bits
alone : ℕ → ℕ → Bool
alone r line =
    elim (leb (first_row line) r) [
      | true ↦ elim (ltb r (first_row (line + 1))) [ true ↦ eqb (value r / 0x1000) line | false ↦ true ]
      | false ↦ true
    ]

lined : ℕ → Bool
lined r = all_below (alone r) 16

all-lined : T (all_below lined row_count)
unfolding lined alone
all-lined = tt

-- ---- what they show of each word

pub row_of-low : (w : ℕ) → w < 0x1_0000 → row_of w ≡ first_fit w values masks
unfolding row_of
row_of-low w h = ap (λ (x : ℕ). first_fit x values masks) (mod-eq_of_lt h)

-- a row is asked of the low 16 bits
pub row_of_mod : (w : ℕ) → row_of (w % 0x1_0000) ≡ row_of w
unfolding row_of
row_of_mod w = ap (λ (x : ℕ). first_fit x values masks) (mod-mod w 0x1_0000)

first_lt : (w : ℕ) → w < 0x1_0000 → first_fit w values masks < row_count
unfolding line_covered
first_lt w h =
    let line = w / 0x1000 in
    let e : line * 64 + w / 64 % 64 ≡ w / 64 = omega arith in
    let t = below (λ b. some_whole (line * 64 + b) (drop (first_row line) values) (drop (first_row line) masks)) 64 (below line_covered 16 covered line (omega arith)) (w / 64 % 64) (omega arith) in
    some_fits w values masks
    (some_later (w / 64) (first_row line) values masks
    (subst (λ (x : ℕ). T (some_whole x (drop (first_row line) values) (drop (first_row line) masks))) e t))

-- every word has a row
pub row_of_lt : (w : ℕ) → row_of w < row_count
unfolding row_of
row_of_lt w = first_lt (w % 0x1_0000) (mod-lt w (zero-lt-suc _))

-- it fits
pub row_of-fits : (w : ℕ) → w < 0x1_0000 → Fits w (row_of w)
row_of-fits w h = rw (row_of-low w h) (found w values masks (first_lt w h) (le_refl row_count))

-- no row before it does
pub row_of-first : (w k : ℕ) → w < 0x1_0000 → k < row_of w → Fits w k → ⊥
row_of-first w k h l f = unfit w values masks k (rw (row_of-low w h) at l) f

-- any two rows that fit one word are nested: the one that stands first has all the other's fixed bits and more
pub nested_rows : (w i j : ℕ) → i < j → j < row_count → Fits w i → Fits w j
    → (bit_and (mask i) (mask j) ≡ mask j) × (fixed_bits j < fixed_bits i)
nested_rows w i j e l p q = nested values masks nesting w i j e l l p q

pub row_of-is : (w : ℕ) → w < 0x1_0000 → IsRow w (row_of w)
row_of-is w h = record {
  is_row = row_of_lt w;
  fitting = row_of-fits w h;
  most = λ q l f. go q l f (dec_lt q (row_of w)) (dec_lt (row_of w) q);
}
  where
    go : (q : ℕ) → q < row_count → Fits w q → Dec (q < row_of w) → Dec (row_of w < q) → fixed_bits q ≤ fixed_bits (row_of w)
    go q l f (yes b) d = absurd (row_of-first w q h b f)
    go q l f (no b) (yes d) = le_of_lt (nested_rows w (row_of w) q d l (row_of-fits w h) f).1
    go q l f (no b) (no d) = let e : q ≡ row_of w = omega arith in le_of_eq (ap fixed_bits e)

-- so a word takes one row only
pub unique : (w r s : ℕ) → IsRow w r → IsRow w s → r ≡ s
unique w r s a b = go (dec_lt r s) (dec_lt s r)
  where
    go : Dec (r < s) → Dec (s < r) → r ≡ s
    go (yes l) d =
        absurd
        (not-le_of_lt (nested_rows w r s l b.is_row a.fitting b.fitting).1 (b.most r a.is_row a.fitting))
    go (no n) (yes l) =
        absurd
        (not-le_of_lt (nested_rows w s r l a.is_row b.fitting a.fitting).1 (a.most s b.is_row b.fitting))
    go (no n) (no m) = omega arith

-- a row that fits has the word's four top bits, and stands among its line's rows
pub in_line_lem : (w r : ℕ) → w < 0x1_0000 → r < row_count → Fits w r
    → (value r / 0x1000 ≡ w / 0x1000) × ((first_row (w / 0x1000) ≤ r) × (r < first_row (w / 0x1000 + 1)))
unfolding in_place
in_line_lem w r h l f =
    let v = value r / 0x1000 in
    let a = keep (eqb (mask r / 0x1000) 15) (elim (leb (first_row v) r) [ true ↦ ltb r (first_row (v + 1)) | false ↦ false ]) (below in_place row_count placed r l) in
    let b = keep (leb (first_row v) r) (ltb r (first_row (v + 1))) a.1 in
    let m : mask r / 0x1000 ≡ 15 = eqb→eq (mask r / 0x1000) 15 a.0 in
    let e : v ≡ w / 0x1000 =
    sym (ap (λ (x : ℕ). x / 0x1000) f) ∙ and_shr w (mask r) 12 ∙ ap (bit_and (w / 0x1000)) m ∙ and_mask (w / 0x1000) 4
    ∙ mod-eq_of_lt (omega arith) in (
      e,
      (
        subst (λ (x : ℕ). first_row x ≤ r) e (leb→le (first_row v) r b.0),
        subst (λ (x : ℕ). r < first_row (x + 1)) e (ltb→lt r (first_row (v + 1)) b.1),
      ),
    )

-- so the row that a word takes is one of its line's
pub row_of-in_line : (w : ℕ) → w < 0x1_0000 → (first_row (w / 0x1000) ≤ row_of w) × (row_of w < first_row (w / 0x1000 + 1))
row_of-in_line w h = (in_line_lem w (row_of w) h (row_of_lt w) (row_of-fits w h)).1

-- and has its four top bits
pub row_line : (op : ℕ) → value (row_of op) / 0x1000 ≡ op / 0x1000 % 16
row_line op =
    let w : ℕ = op % 0x1_0000 in
    let h : w < 0x1_0000 = mod-lt op (zero-lt-suc _) in
    let q : w / 0x1000 ≡ op / 0x1000 % 16 = omega arith in
    ap (λ (r : ℕ). value r / 0x1000) (sym (row_of_mod op)) ∙ (in_line_lem w (row_of w) h (row_of_lt w) (row_of-fits w h)).0 ∙ q

-- so what a word changes is what the instruction of its row changes
pub of_row_lem : (g : List ℕ) (at sr other : ℕ) (e : Emac) (m : Memory) (op : ℕ)
    → of_row (row_of op) g at sr other e m op ≡ instruction g at sr other e m op
unfolding of_row instruction
of_row_lem g at sr other e m op = rw (row_line op)

where_both : (a b c : Bool) → a ≡ true → b ≡ true → T (elim a [ true ↦ elim b [ true ↦ c | false ↦ true ] | false ↦ true ]) → T c
where_both true true c p q t = t
where_both true false c p q t = absurd (false≢true q)
where_both false b c p q t = absurd (false≢true p)

-- no row stands past the last
pub past_all : (r : ℕ) → row_count ≤ r → 0 ≡ value r / 0x1000
past_all r l = rw get_or-eq_default

-- which line's rows a row stands among
pub line_at : (r line : ℕ) → r < row_count → line < 16 → first_row line ≤ r → r < first_row (line + 1) → line ≡ value r / 0x1000
unfolding lined alone
line_at r line l k f g =
    sym
    (eqb→eq (value r / 0x1000) line
    (where_both _ _ _ (le-leb (first_row line) r f) (lt-ltb r (first_row (line + 1)) g) (below (alone r) 16 (below lined row_count all-lined r l) line k)))

-- the row of the word w is one of a line's, and none of the line's first n: what a decoder knows once it has ruled those out
pub record Within (line n w : ℕ) : Type 0 where
  pub word : w < 0x1_0000
  pub low : first_row line + n ≤ row_of w
  pub high : row_of w < first_row (line + 1)
