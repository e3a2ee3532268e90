-- A table in front of the row search. Document 02: "each naming the row when those bits settle it or sending the word on to the rows".
--
-- The table has 1,024 entries, one for each value of a word's top ten bits. An entry that names a row names the row of every word with
-- those bits; an entry that names none is one where two such words take different rows, so the table settles all that can be settled.
-- The row that a word gets by the table is the row that it gets by the search: for all 65,536 words, and for every number. Assumes nothing.
use Rattle.std.specs.Prelude.{ℕ, ◌/◌, ◌%◌, ◌≤◌, ◌<◌, ◌≡◌, length, get_or}
use Rattle.std.proofs.Common.{sym, subst, arith}
use Rattle.instructions.specs.Rows.{row_count, IsRow, row_of}
use Rattle.rows.specs.RowLaws.{row_of-is}
use Rattle.rows.specs.Top.{top_rows, TwoRows, row_by}
use Rattle.rows.specs.TopLaws as top

-- the entry of the ten bits h; past the last row where it names none
abbrev pub entry_of : ℕ → ℕ
entry_of h = get_or top_rows h row_count

pub record TableAndSearch : Type 0 where
  pub entries : length top_rows ≡ 1024
  pub settled : (h : ℕ) → h < 1024 → entry_of h < row_count → (w : ℕ) → w / 64 % 1024 ≡ h → entry_of h ≡ row_of w
  pub unsettled : (h : ℕ) → h < 1024 → row_count ≤ entry_of h → TwoRows h
  pub same : (w : ℕ) → row_by top_rows w ≡ row_of w
  pub takes : (w : ℕ) → w < 0x1_0000 → IsRow w (row_by top_rows w)

settled : (h : ℕ) → h < 1024 → entry_of h < row_count → (w : ℕ) → w / 64 % 1024 ≡ h → entry_of h ≡ row_of w
settled h l k w e =
    let named : entry_of (w / 64 % 1024) < row_count = rw e k in
    rw (sym e, top.entry (w / 64 % 1024) (omega arith)) (top.settled w (rw (top.entry (w / 64 % 1024) (omega arith)) at named))

pub table_and_search : TableAndSearch
table_and_search = record {
  entries = top.entries;
  settled = settled;
  unsettled = λ h l k. top.unsettled h l (rw (top.entry h l) at k);
  same = top.top_sound;
  takes = λ w l. subst (IsRow w) (sym (top.top_sound w)) (row_of-is w l);
}
