use Prim.Native.Nat.{ℕ, ◌+◌, ◌*◌, ◌/◌, ◌%◌, ◌<◌}
use mathlib.Core.Path.{◌≡◌}
use mathlib.Core.Bool.{true, false}
use native.Mathlib.Omega.{arith}
use Rattle.manual.specs.Bits.{with_bit}
use Rattle.manual.specs.Exceptions.{with_mask, handler_sr as handler_sr_of}
use Rattle.word.specs.BitLaws.{with_parts_lem}
use Rattle.state.proofs.status.handler_sr.Goals as goal

-- T cleared and S set: bit 14, and what stands below S, stay
no-t : (sr : ℕ) → sr < 0x1_0000 → with_bit 15 false sr ≡ sr % 0x8000
no-t sr h = omega (arith, with_parts_lem 15 sr false)

low : (sr : ℕ) → sr % 0x8000 % 0x2000 ≡ sr % 0x2000
low sr = omega arith

bit-14 : (sr : ℕ) → sr % 0x8000 / 0x4000 ≡ sr / 0x4000 % 2
bit-14 sr = omega arith

supervising : (sr : ℕ) → sr < 0x1_0000 → sr / 0x4000 % 2 * 0x4000 + 0x2000 + sr % 0x2000 ≡ with_bit 13 true (with_bit 15 false sr)
supervising sr h = rw (no-t sr h, with_parts_lem 13 (sr % 0x8000) true, low sr, bit-14 sr) (omega arith)

masked : (q r k : ℕ) → q * 0x4000 + 0x2000 + r / 0x800 * 0x800 + k + r % 0x100 ≡ with_mask (q * 0x4000 + 0x2000 + r) k
masked q r k = omega arith

mask-above : (sr : ℕ) → sr / 0x800 % 4 ≡ sr % 0x2000 / 0x800
mask-above sr = omega arith

mask_below : (sr : ℕ) → sr % 0x100 ≡ sr % 0x2000 % 0x100
mask_below sr = omega arith

pub returns-in-None : goal.returns-in-None
unfolding handler_sr_of
returns-in-None c = rw c.in-None.is (supervising c.args.sr (omega arith))

pub returns-in-Some : goal.returns-in-Some
unfolding handler_sr_of
returns-in-Some c =
    let sr : ℕ = c.args.sr in
    rw (c.in-Some.is, ← supervising sr (omega arith), mask-above sr, mask_below sr) (masked (sr / 0x4000 % 2) (sr % 0x2000) _)
