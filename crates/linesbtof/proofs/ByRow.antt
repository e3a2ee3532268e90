-- A row that is none of a line's rows has its place past them, and so none of their changes. Assumes nothing.
use mathlib.Core.Path.{◌≡◌}
use mathlib.Core.List.{List, [], ◌∷◌}
use Prim.Native.Nat.{ℕ, zero, suc, ◌+◌, ◌-◌, ◌≤◌}
use native.Mathlib.Omega.{arith}
use lib.ListN.{length, get_or, take, length-append, get_or-eq_default}
use Rattle.manual.specs.declared.Change.{Change}
use Rattle.word.specs.TestLaws.{NoneOf, other_row}
use Rattle.instructions.specs.Rows.{Row, lines, joined, row_count, first_row, place_in}

abbrev rows_of : ℕ → ℕ
rows_of line = first_row (line + 1) - first_row line

some_of : (k : ℕ) (ls : List (List Row)) → length (joined (take k ls)) ≤ length (joined ls)
some_of zero ls = omega arith
some_of (suc k) [] = omega arith
some_of (suc k) (l ∷ ls) = simp length-append (omega (arith, some_of k ls))

pub no_row : (line row : ℕ) → NoneOf (first_row line) (rows_of line) row → (changes : List Change) (d : Change)
    → length changes ≡ rows_of line → get_or changes (place_in (first_row line) row) d ≡ d
unfolding place_in
no_row line row h changes d e =
    let past = other_row (first_row line) (rows_of line) row_count row (omega (arith, some_of (line + 1) lines)) h in
    get_or-eq_default changes d (omega arith)
