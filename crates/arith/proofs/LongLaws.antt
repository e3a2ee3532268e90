-- The number that a long stands for, by its sign bit, and the long of a number that is negated. Assumes nothing.
use mathlib.Core.Path.{◌≡◌, refl, ap, ◌∙◌}
use Prim.Native.Nat.{ℕ, zero, suc, ◌-◌, ◌%◌, ◌^◌, ◌≤◌, ◌<◌}
use native.Mathlib.Omega.{arith}
use lib.IntN.{pos, negsuc, neg_ℤ}
use Rattle.manual.specs.declared.Size.TheVariants.{Long}
use Rattle.manual.specs.Word.{signed_at, signed, mod_z}
use Rattle.word.specs.SignedLaws.{signed_pos, signed-neg}
use Rattle.word.specs.WordLaws.{cut_small}

pub long_pos : (v : ℕ) → v < 0x8000_0000 → signed Long v ≡ pos v
long_pos v h = ap (signed_at 0x8000_0000) (cut_small Long v (omega arith)) ∙ signed_pos 0x8000_0000 v h

pub long-neg : (v : ℕ) → 0x8000_0000 ≤ v → v < 2 ^ 32 → signed Long v ≡ negsuc (2 ^ 32 - suc v)
long-neg v h k = ap (signed_at 0x8000_0000) (cut_small Long v k) ∙ signed-neg 0x8000_0000 v h

pub mod_neg : (n : ℕ) → mod_z (neg_ℤ (pos n)) (2 ^ 32) ≡ (2 ^ 32 - n % 2 ^ 32) % 2 ^ 32
mod_neg zero = refl
mod_neg (suc n) = omega arith
