-- What the parts of an accumulator's read ensure, where whole numbers are raised by 2^52. Assumes nothing.
use Rattle.std.specs.Prelude.{◌≡◌, ℕ, ◌+◌, ◌-◌, ◌^◌, Bool, cond, not, ◌&&◌, ℤ, pos, negsuc}
use Rattle.manual.specs.Word.{mod_z, in_half}
use Rattle.manual.specs.Emac.{rounded}
use Rattle.word.specs.RaisedLaws.{Up}

-- q, or with OMC the nearest number of the width by the sign of what was rounded; H is half the width's numbers
abbrev pub clamped : Bool → ℕ → Bool → ℤ → ℤ
clamped omc H below q = cond (omc && not (in_half H q)) (cond below (negsuc (H - 1)) (pos (H - 1))) q

-- a number over m, and a number as it is read
pub record IsRounded (rt : Bool) (m r q : ℕ) : Type 0 where
  pub value : (z : ℤ) → Up (2 ^ 52) z r → Up (2 ^ 52) (rounded rt z m) q

pub record IsClamped (omc below : Bool) (H q r : ℕ) : Type 0 where
  pub value : (z : ℤ) → Up (2 ^ 52) z q → r ≡ mod_z (clamped omc H below z) (H + H)
