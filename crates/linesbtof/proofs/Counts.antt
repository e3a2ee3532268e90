-- How far a shift goes: below 64 places. Assumes nothing.
use Prim.Native.Nat.{ℕ, ◌/◌, ◌%◌, ◌<◌}
use mathlib.Core.Path.{◌≡◌}
use mathlib.Core.Bool.{Bool, true, false, cond}
use native.Mathlib.Nat.{mod-eq_of_lt}
use native.Mathlib.Omega.{arith}
use lib.Dec.{eqb}
use Rattle.instructions.specs.Line5.{quick_number}

pub low64 : (n : ℕ) → n < 64 → n % 64 ≡ n
low64 n h = mod-eq_of_lt h

pub quick_below : (op : ℕ) → quick_number op < 64
unfolding quick_number
quick_below op = by (eqb (op / 512 % 8) 0)
  where
    by : (b : Bool) → cond b 8 (op / 512 % 8) < 64
    by true = omega arith
    by false = omega arith
