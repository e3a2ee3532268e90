-- Numbers raised by 2^52 at the widths of an accumulator: what division and remainder do, by the sign. Assumes nothing.
use Rattle.std.specs.Prelude.{◌≡◌, ℕ, ◌/◌, ◌%◌, ◌^◌, ℤ, pos, negsuc}
use Rattle.std.proofs.Common.{arith}
use Rattle.std.specs.Int.Signed.{shr_z}
use Rattle.manual.specs.Word.{mod_z}
use Rattle.word.specs.RaisedLaws.{Up}

pub floor24 : (z : ℤ) (r : ℕ) → Up (2 ^ 52) z r → Up (2 ^ 28) (shr_z z (2 ^ 24)) (r / 2 ^ 24)
floor24 (pos n) r u = omega arith
floor24 (negsuc n) r u = omega arith

pub mod24 : (z : ℤ) (r : ℕ) → Up (2 ^ 52) z r → mod_z z (2 ^ 24) ≡ r % 2 ^ 24
mod24 (pos n) r u = omega arith
mod24 (negsuc n) r u = omega arith

pub odd24 : (z : ℤ) (r : ℕ) → Up (2 ^ 52) z r → mod_z (shr_z z (2 ^ 24)) 2 ≡ r / 2 ^ 24 % 2
odd24 (pos n) r u = omega arith
odd24 (negsuc n) r u = omega arith

pub floor8 : (z : ℤ) (r : ℕ) → Up (2 ^ 52) z r → Up (2 ^ 44) (shr_z z (2 ^ 8)) (r / 2 ^ 8)
floor8 (pos n) r u = omega arith
floor8 (negsuc n) r u = omega arith

pub mod8 : (z : ℤ) (r : ℕ) → Up (2 ^ 52) z r → mod_z z (2 ^ 8) ≡ r % 2 ^ 8
mod8 (pos n) r u = omega arith
mod8 (negsuc n) r u = omega arith

pub odd8 : (z : ℤ) (r : ℕ) → Up (2 ^ 52) z r → mod_z (shr_z z (2 ^ 8)) 2 ≡ r / 2 ^ 8 % 2
odd8 (pos n) r u = omega arith
odd8 (negsuc n) r u = omega arith

pub mod16 : (z : ℤ) (r : ℕ) → Up (2 ^ 52) z r → mod_z z (2 ^ 16) ≡ r % 2 ^ 16
mod16 (pos n) r u = omega arith
mod16 (negsuc n) r u = omega arith

pub mod32 : (z : ℤ) (r : ℕ) → Up (2 ^ 52) z r → mod_z z (2 ^ 32) ≡ r % 2 ^ 32
mod32 (pos n) r u = omega arith
mod32 (negsuc n) r u = omega arith
