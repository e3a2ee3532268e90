-- The table of rows by a word's top ten bits, and the row of a word by a table that is lent.
use Rattle.std.specs.Prelude.{◌≡◌, cond, List, [], ◌∷◌, map, ℕ, zero, suc, ◌/◌, ◌%◌, eqb, ltb, get_or}
use Rattle.instructions.specs.Rows.{values, masks, mask, row_count, first_fit, row_of}

-- the first row that fits some word whose top ten bits are h: it has them where it fixes them
abbrev pub possible : ℕ → ℕ
possible h = first_fit h (map (λ v. v / 64) values) (map (λ m. m / 64) masks)

-- the row that the ten bits settle: that row, where it fixes none of the other six bits and so fits all 64 words; else none
unfoldable pub top_of : ℕ → ℕ
top_of h =
    let r : ℕ = possible h in
    cond (eqb (mask r % 64) 0) r row_count

abbrev pub up_to : ℕ → ℕ → List ℕ
up_to i zero = []
up_to i (suc n) = i ∷ up_to (suc i) n

-- the table: an entry for each value of the ten bits
unfoldable pub top_rows : List ℕ
top_rows = map top_of (up_to 0 1024)

-- two words with the ten bits h that take different rows: h settles none
pub record TwoRows (h : ℕ) : Type 0 where
  pub one : ℕ
  pub other : ℕ
  pub one_has : one / 64 ≡ h
  pub other_has : other / 64 ≡ h
  pub apart : row_of one ≡ row_of other → ⊥

-- the row of the word w by the table t: the entry of its top ten bits, where that is a row; else by the rows
unfoldable pub row_by : List ℕ → ℕ → ℕ
row_by t w =
    let r : ℕ = get_or t (w / 64 % 1024) row_count in
    cond (ltb r row_count) r (row_of w)

-- a table by which every word has its own row
abbrev pub Sound : List ℕ → Type 0
Sound t = (w : ℕ) → row_by t w ≡ row_of w
