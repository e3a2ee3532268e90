-- Lines 1, 2 and 3 as one: a line says the size of its MOVE, and which row is MOVEA's. Assumes nothing.
use Rattle.std.specs.Prelude.{ℕ, ◌+◌, ◌-◌, ◌≤◌, ◌<◌, ◌≡◌, Bool, cond, List, [], ◌∷◌, eqb, get_or}
use Rattle.std.proofs.Math.Bool.{true, false}
use native.Mathlib.Omega.{arith}
use borrow.Author.Tests.{eq-eqb, ne_eqb, lt-ltb, le-ltb}
use Rattle.std.proofs.Math.ListN.{get_or-eq_default}
use Rattle.manual.specs.declared.Size.{Size}
use Rattle.manual.specs.declared.Size.TheVariants.{Byte, Word, Long}
use Rattle.manual.specs.declared.Change.{Change}
use Rattle.manual.specs.Memory.{Memory}
use Rattle.instructions.specs.Rows.{first_row, place_in}
use Rattle.manual.specs.Change.{illegal}
use Rattle.word.specs.TestLaws.{by-lt}
use Rattle.instructions.specs.Moves.{move, movea, moves, line1, line2, line3}

unfoldable pub move_size : ℕ → Size
move_size line = cond (eqb line 1) Byte (cond (eqb line 2) Long Word)

unfoldable pub movea_row : ℕ → ℕ
movea_row line = cond (eqb line 1) (first_row 1) (cond (eqb line 2) (first_row 2) (first_row 3))

unfoldable pub move_row : ℕ → ℕ
move_row line = cond (eqb line 1) (first_row 1 + 1) (cond (eqb line 2) (first_row 2 + 1) (first_row 3 + 1))

unfoldable pub move_line : ℕ → ℕ → List ℕ → ℕ → ℕ → Memory → ℕ → Change
move_line line row g at sr m op = cond (eqb line 1) (line1 row g at sr m op) (cond (eqb line 2) (line2 row g at sr m op) (line3 row g at sr m op))

-- a line of two rows, by its first
module _ (first row : ℕ) (x y other : Change) where
  abbrev Same : Type 0
  Same = cond (eqb row first) x (cond (eqb row (first + 1)) y other) ≡ get_or (x ∷ y ∷ []) (place_in first row) other

  below : row < first → Same
  unfolding place_in
  below l = rw (ne_eqb row first (λ e. omega (arith, e)), ne_eqb row (first + 1) (λ e. omega (arith, e)), lt-ltb row first l)

  at_first : first ≤ row → row < first + 1 → Same
  unfolding place_in
  at_first l h =
      let q : row - first ≡ 0 = omega arith in
      rw (eq-eqb row first (omega arith), le-ltb row first l, q)

  at_second : first + 1 ≤ row → row < first + 2 → Same
  unfolding place_in
  at_second l h =
      let q : row - first ≡ 1 = omega arith in
      rw (ne_eqb row first (λ e. omega (arith, e)), eq-eqb row (first + 1) (omega arith), le-ltb row first (omega arith), q)

  above : first + 2 ≤ row → Same
  unfolding place_in
  above l =
      let past : 2 ≤ row - first = omega arith in
      rw (ne_eqb row first (λ e. omega (arith, e)), ne_eqb row (first + 1) (λ e. omega (arith, e)), le-ltb row first (omega arith), get_or-eq_default)

  by_first : Same
  by_first = by-lt row first below (λ l. by-lt row (first + 1) (at_first l) (λ l2. by-lt row (first + 2) (at_second l2) above))

module _ (row : ℕ) (g : List ℕ) (at sr : ℕ) (m : Memory) (op : ℕ) where
  by_size : (b c : Bool)
      → let z : Size = cond b Byte (cond c Long Word) in
      cond (eqb row (cond b (first_row 1) (cond c (first_row 2) (first_row 3)))) (movea z g at sr m op)
      (cond (eqb row (cond b (first_row 1 + 1) (cond c (first_row 2 + 1) (first_row 3 + 1)))) (move z g at sr m op) (illegal at sr))
      ≡ cond b (line1 row g at sr m op) (cond c (line2 row g at sr m op) (line3 row g at sr m op))
  unfolding moves
  by_size true c = by_first (first_row 1) row _ _ _
  by_size false true = by_first (first_row 2) row _ _ _
  by_size false false = by_first (first_row 3) row _ _ _

  -- what the code does of it: z, r and k are the size and the rows of MOVEA and MOVE that it finds
  pub as_one : (line : ℕ) (z : Size) (r k : ℕ) → z ≡ move_size line → r ≡ movea_row line → k ≡ move_row line
      → cond (eqb row r) (movea z g at sr m op) (cond (eqb row k) (move z g at sr m op) (illegal at sr)) ≡ move_line line row g at sr m op
  unfolding move_size movea_row move_row move_line
  as_one line z r k p q h = rw (p, q, h) (by_size (eqb line 1) (eqb line 2))
