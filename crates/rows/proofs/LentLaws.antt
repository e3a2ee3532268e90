-- A look into a table that is lent. Assumes nothing.
use mathlib.Core.Path.{◌≡◌, refl}
use mathlib.Core.List.{List, [], ◌∷◌}
use Prim.Native.Nat.{ℕ, zero, suc, ◌/◌, ◌%◌, ◌≤◌, ◌<◌}
use native.Mathlib.Nat.{le_of_suc-le-suc, not-suc-le-zero}
use borrow.Author.Tests.{le-ltb, lt-ltb}
use lib.ListN.{length, get_or, get_or-eq_default}
use Rattle.instructions.specs.Rows.{row_count, row_of}
use Rattle.rows.specs.Top.{row_by}

default : (t : List ℕ) (k d e : ℕ) → k < length t → get_or t k d ≡ get_or t k e
default [] k d e h = absurd (not-suc-le-zero h)
default (x ∷ t) zero d e h = refl
default (x ∷ t) (suc k) d e h = default t k d e (le_of_suc-le-suc h)

module _ (t : List ℕ) (w : ℕ) where
  pub by-entry : w / 64 % 1024 < length t → get_or t (w / 64 % 1024) 0 < row_count → get_or t (w / 64 % 1024) 0 ≡ row_by t w
  unfolding row_by
  by-entry i l = rw (default t (w / 64 % 1024) row_count 0 i, lt-ltb (get_or t (w / 64 % 1024) 0) row_count l)

  pub by_rows : w / 64 % 1024 < length t → row_count ≤ get_or t (w / 64 % 1024) 0 → row_of w ≡ row_by t w
  unfolding row_by
  by_rows i l = rw (default t (w / 64 % 1024) row_count 0 i, le-ltb (get_or t (w / 64 % 1024) 0) row_count l)

  pub past_end : length t ≤ w / 64 % 1024 → row_of w ≡ row_by t w
  unfolding row_by
  past_end l = rw get_or-eq_default
