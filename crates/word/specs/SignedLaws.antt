-- The numbers that patterns stand for, by the sign bit; `signed_at` stays shut elsewhere. Assumes nothing.
use Rattle.std.specs.Prelude.{◌≡◌, ℕ, suc, ◌+◌, ◌-◌, ◌%◌, ◌^◌, ◌<◌, ◌≤◌, pos, negsuc}
use Rattle.std.proofs.Common.{mod-eq_of_lt, arith, lt-ltb, le-ltb}
use Rattle.manual.specs.Word.{signed_at, mod_z}

pub signed_pos : (H p : ℕ) → p < H → signed_at H p ≡ pos p
unfolding signed_at
signed_pos H p h = simp (lt-ltb p H h)

pub signed-neg : (H p : ℕ) → H ≤ p → signed_at H p ≡ negsuc (H + H - suc p)
unfolding signed_at
signed-neg H p h = simp (le-ltb p H h)

-- the long of a number: the pattern itself, or with the ones above it
pub long_pos : (H p : ℕ) → H ≤ 2 ^ 32 → p < H → p ≡ mod_z (signed_at H p) (2 ^ 32)
long_pos H p k h = rw (signed_pos H p h) (omega arith)

pub long-neg : (H p : ℕ) → H + H ≤ 2 ^ 32 → H ≤ p → p < H + H → p + (2 ^ 32 - (H + H)) ≡ mod_z (signed_at H p) (2 ^ 32)
long-neg H p k h l =
    let e : (H + H - suc p) % 2 ^ 32 ≡ H + H - suc p = mod-eq_of_lt (omega arith) in
    rw (signed-neg H p h, e) (omega arith)
