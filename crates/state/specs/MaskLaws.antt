-- The status register's bits are those of the mask 0xB71F: one law for every field of a mask, and this mask by it.
-- Assumes nothing.
use Rattle.std.specs.Prelude.{ℕ, ◌+◌, ◌*◌, ◌/◌, ◌%◌, ◌^◌, ◌<◌, ◌≡◌}
use Rattle.std.proofs.Common.{sym, ap, ◌∙◌, arith, mod-lt, lit<, pow_pos}
use Rattle.std.proofs.Math.Pow.{split}
use Rattle.std.specs.Int.Bits.{bit_and, and_zero_r}
use Rattle.std.proofs.lemmas.Nat.{and_block, and_mask}
use Rattle.manual.specs.Admitted.{status}

-- a mask of two fields, the lower of k bits
pub and_at : (v b s k : ℕ) → s < 2 ^ k → bit_and v (b * 2 ^ k + s) ≡ bit_and (v / 2 ^ k) b * 2 ^ k + bit_and (v % 2 ^ k) s
and_at v b s k h =
    sym (ap (λ (x : ℕ). bit_and x (b * 2 ^ k + s)) (split v k))
    ∙ and_block k (v / 2 ^ k) b (v % 2 ^ k) s (mod-lt v (pow_pos k)) h

mask-b : (y : ℕ) → y < 16 → bit_and y 0xB ≡ y / 8 * 8 + y % 4
mask-b y h =
    let z : ℕ = y / 4 in
    let two : bit_and z 2 ≡ z / 2 * 2 = omega (arith, and_at z 1 0 1 (lit< tt), and_mask (z / 2) 1, and_zero_r (z % 2)) in
    omega (arith, and_at y 2 3 2 (lit< tt), and_mask (y % 4) 2)

-- fields put together: each quotient and remainder is an unknown of its own
three : (r a b p p' q s s' : ℕ) → r ≡ a * 16 + b → a ≡ p * 8 + q → b ≡ s → p ≡ p' → s ≡ s' → r ≡ p' * 128 + q * 16 + s'
three r a b p p' q s s' er ea eb ep es = omega arith

mask_b7 : (x : ℕ) → x < 256 → bit_and x 0xB7 ≡ x / 128 * 128 + x / 16 % 4 * 16 + x % 8
mask_b7 x h =
    let p : x / 16 / 8 ≡ x / 128 = omega arith in
    let t : x % 16 % 8 ≡ x % 8 = omega arith in
    three _ _ _ _ _ _ _ _ (and_at x 0xB 7 4 (lit< tt)) (mask-b (x / 16) (omega arith)) (and_mask (x % 16) 3) p t

four : (r a b p p' q q' s t t' : ℕ) → r ≡ a * 256 + b → a ≡ p * 128 + q * 16 + s → b ≡ t → p ≡ p' → q ≡ q' → t ≡ t'
    → r ≡ p' * 0x8000 + q' * 0x1000 + s * 0x100 + t'
four r a b p p' q q' s t t' er ea eb ep eq et = omega arith

pub status-mask : (v : ℕ) → v < 2 ^ 16 → status v ≡ bit_and v 0xB71F
unfolding status
status-mask v h =
    let p : v / 256 / 128 ≡ v / 0x8000 % 2 = omega arith in
    let q : v / 256 / 16 % 4 ≡ v / 0x1000 % 4 = omega arith in
    let t : v % 256 % 32 ≡ v % 32 = omega arith in
    sym (four _ _ _ _ _ _ _ (v / 256 % 8) _ _ (and_at v 0xB7 0x1F 8 (lit< tt)) (mask_b7 (v / 256) (omega arith)) (and_mask (v % 256) 5) p q t)
