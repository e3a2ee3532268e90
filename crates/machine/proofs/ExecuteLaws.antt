-- The instruction of a row is that of the line among whose rows it stands. Assumes nothing.
use Prim.Native.Nat.{ℕ, ◌+◌, ◌≤◌, ◌<◌}
use mathlib.Core.Path.{◌≡◌}
use mathlib.Core.List.{List}
use mathlib.Core.Logic.{◌⊎◌, inl, inr}
use native.Mathlib.Omega.{arith}
use Rattle.manual.specs.declared.Emac.{Emac}
use Rattle.manual.specs.declared.Change.{Change}
use Rattle.manual.specs.Memory.{Memory}
use Rattle.instructions.specs.Rows.{row_count, first_row}
use Rattle.instructions.specs.Line0.{line0}
use Rattle.instructions.specs.Step.{in_line, of_row}
use Rattle.rows.specs.RowLaws.{line_at, past_all}

module _ (row : ℕ) (g : List ℕ) (at sr other : ℕ) (e : Emac) (m : Memory) (op : ℕ) (c : Change) where
  pub of_line : (line : ℕ) → line < 16 → first_row line ≤ row → row < first_row (line + 1) → row < row_count
      → c ≡ in_line line row g at sr other e m op → c ≡ of_row row g at sr other e m op
  unfolding of_row
  of_line line k l h r q = rw (← line_at row line r k l h) q

  -- what is no row has line 0's value
  pub of_line_0 : (row < first_row 1) ⊎ (row_count ≤ row) → c ≡ line0 row g at sr m op → c ≡ of_row row g at sr other e m op
  unfolding of_row
  of_line_0 (inl l) q = of_line 0 (omega arith) (omega arith) l (omega arith) q
  of_line_0 (inr l) q = rw (← past_all row l) q
