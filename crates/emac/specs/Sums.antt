-- What the parts of a sum ensure, where whole numbers are raised by 2^52. Assumes nothing.
use Rattle.std.specs.Prelude.{◌≡◌, ℕ, ◌+◌, ◌-◌, ◌^◌, ◌<◌, ◌≤◌, Bool, cond, not, ◌&&◌, ℤ, ◌+ℤ◌, ◌-ℤ◌}
use Rattle.manual.specs.declared.Mode.{Mode}
use Rattle.manual.specs.declared.Emac.{Emac}
use Rattle.manual.specs.Word.{mod_z, negative}
use Rattle.manual.specs.Emac.{value_of, in_range, limit, acc_of, with_acc, with_sum, accumulate}
use Rattle.word.specs.RaisedLaws.{Up}
use Rattle.emac.specs.declared.sum.AfterSum.{AfterSum}

-- the number of a pattern
pub record IsValue (k : Mode) (a r : ℕ) : Type 0 where
  pub value : Up (2 ^ 52) (value_of k a) r
  pub low : 2 ^ 52 - 2 ^ 47 ≤ r
  pub high : r < 2 ^ 52 + 2 ^ 48

pub record IsSum (sub : Bool) (c v r : ℕ) : Type 0 where
  pub value : (z w : ℤ) → Up (2 ^ 52) z c → Up (2 ^ 52) w v → Up (2 ^ 52) (cond sub (z -ℤ w) (z +ℤ w)) r

-- a sum s of z: whether it is out of range, the pattern that is stored of it, and MACSR and the pattern of any unit after it
pub record IsOutside (k : Mode) (s : ℕ) (r : Bool) : Type 0 where
  pub value : (z : ℤ) → Up (2 ^ 52) z s → r ≡ not (in_range k z)

pub record IsStored (k : Mode) (out : Bool) (s r : ℕ) : Type 0 where
  pub value : (z : ℤ) → Up (2 ^ 52) z s → r ≡ mod_z (cond (out && k.omc) (limit k (negative z)) z) (2 ^ 48)

pub record IsWithSum (k : Mode) (m i : ℕ) (over : Bool) (s : ℕ) (r : AfterSum) : Type 0 where
  pub value : (z : ℤ) → Up (2 ^ 52) z s → (e : Emac) → e.macsr ≡ m → with_acc i r.macsr r.acc e ≡ with_sum k e i over (negative z) z

pub record IsSummed (m a i s : ℕ) (sub : Bool) (x y : ℕ) (r : AfterSum) : Type 0 where
  pub value : (e : Emac) → e.macsr ≡ m → a ≡ acc_of e i → with_acc i r.macsr r.acc e ≡ accumulate e i s sub x y
