-- Neighbouring fields of w bits that change places, and how such swaps reverse the order of bits. Assumes nothing.
use Rattle.std.specs.Prelude.{◌≡◌, ℕ, zero, suc, ◌+◌, ◌-◌, ◌*◌, ◌/◌, ◌%◌, ◌^◌, ◌<◌, bit_and, bit_or}
use Rattle.std.proofs.Math.Path.{refl}
use Rattle.std.proofs.Common.{sym, ap, ◌∙◌, pow-suc, add_assoc, mod-lt, mul-le-mul_right, le-add_right, lt_of_le_of_lt, lt_of_lt_of_le, pow_pos, pow_mono, shl_lt, shr-shr}
use Rattle.std.proofs.Math.Nat.{mod-eq_of_lt}
use native.Mathlib.Omega.{arith}
use Rattle.std.proofs.Math.Pow.{pow-add, split, high, mod-mod-pow, ones_lt}
use Rattle.std.proofs.lemmas.Nat.{and_block, and_mask, and_le_r, or_lt, or_block, or_shifted}
use Rattle.manual.specs.Bits.{reversed_bits}
use Rattle.word.specs.BitLaws.{reversed_low, reversed_mod, reversed_add}

-- the mask of the lower field, of w bits, in each of m pairs of fields
unfoldable pub low_fields : ℕ → ℕ → ℕ
low_fields w zero = 0
low_fields w (suc m) = low_fields w m * 2 ^ (w + w) + (2 ^ w - 1)

-- a long in which the two fields of each pair change places
unfoldable pub swapped : ℕ → ℕ → ℕ → ℕ
swapped w m v = bit_or (bit_and v (low_fields w m) * 2 ^ w % 2 ^ 32) (bit_and (v / 2 ^ w) (low_fields w m))

pub swapped-long : (w m v : ℕ) → low_fields w m < 2 ^ 32 → swapped w m v < 2 ^ 32
unfolding swapped
swapped-long w m v h = or_lt 32 _ _ (mod-lt (bit_and v (low_fields w m) * 2 ^ w) (pow_pos 32)) (lt_of_le_of_lt (and_le_r (v / 2 ^ w) (low_fields w m)) h)

-- m groups of n bits, each at its place with its bits in reverse order
unfoldable pub turned : ℕ → ℕ → ℕ → ℕ
turned n zero v = 0
turned n (suc m) v = turned n m (v / 2 ^ n) * 2 ^ n + reversed_bits n v

-- ---- groups in reverse order

-- a group of one bit is its own reverse
pub turned-bits : (m v : ℕ) → v < 2 ^ m → v ≡ turned 1 m v
unfolding turned reversed_bits
turned-bits zero v h = omega arith
turned-bits (suc m) v h = omega (arith, turned-bits m (v / 2) (omega (arith, pow-suc 2 m)))

-- one group: its bits in reverse order
pub turned-whole : (n v : ℕ) → turned n 1 v ≡ reversed_bits n v
unfolding turned
turned-whole n v = omega arith

module _ (w : ℕ) where
  -- the two lowest groups
  turned_two : (m s a b : ℕ) → a < 2 ^ w → b < 2 ^ w
      → turned w (suc (suc m)) ((s * 2 ^ w + a) * 2 ^ w + b) ≡ (turned w m s * 2 ^ w + reversed_bits w a) * 2 ^ w + reversed_bits w b
  unfolding turned
  turned_two m s a b ha hb = rw (high (s * 2 ^ w + a) w hb, reversed_low w (s * 2 ^ w + a) b, high s w ha, reversed_low w s a)

  -- the mask's lowest field keeps the w low bits, and the rest of the mask meets the rest
  low_field : (low v : ℕ) → bit_and v (low * 2 ^ (w + w) + (2 ^ w - 1)) ≡ bit_and (v / 2 ^ (w + w)) low * 2 ^ (w + w) + v % 2 ^ w
  low_field low v =
      let wide : 2 ^ w - 1 < 2 ^ (w + w) = lt_of_lt_of_le (ones_lt w) (pow_mono (le-add_right w w)) in
      ap (λ (n : ℕ). bit_and n (low * 2 ^ (w + w) + (2 ^ w - 1))) (sym (split v (w + w)))
      ∙ and_block (w + w) (v / 2 ^ (w + w)) low (v % 2 ^ (w + w)) (2 ^ w - 1) (mod-lt v (pow_pos (w + w))) wide
      ∙ ap (λ (n : ℕ). bit_and (v / 2 ^ (w + w)) low * 2 ^ (w + w) + n) (and_mask (v % 2 ^ (w + w)) w ∙ mod-mod-pow v w w)

  -- `swapped` by a mask, where nothing is lost at the top
  abbrev exchanged : ℕ → ℕ → ℕ
  exchanged low v = bit_or (bit_and v low * 2 ^ w) (bit_and (v / 2 ^ w) low)

  -- the two lowest fields change places, and so do those above them
  exchanged_lowest : (low v : ℕ) → exchanged (low * 2 ^ (w + w) + (2 ^ w - 1)) v ≡ (exchanged low (v / 2 ^ (w + w)) * 2 ^ w + v % 2 ^ w) * 2 ^ w + v / 2 ^ w % 2 ^ w
  exchanged_lowest low v =
      let up = bit_and (v / 2 ^ (w + w)) low in
      let down = bit_and (v / 2 ^ (w + w) / 2 ^ w) low in
      let a = v % 2 ^ w in
      let b = v / 2 ^ w % 2 ^ w in
      let shifts : v / 2 ^ w / 2 ^ (w + w) ≡ v / 2 ^ (w + w) / 2 ^ w = rw (shr-shr v w (w + w), shr-shr v (w + w) w, add_assoc w w w) in
      let b-low : b < 2 ^ w = mod-lt (v / 2 ^ w) (pow_pos w) in
      let raised : (up * 2 ^ (w + w) + a) * 2 ^ w ≡ up * 2 ^ w * 2 ^ (w + w) + a * 2 ^ w = omega arith in
      rw (
        low_field low v,
        low_field low (v / 2 ^ w),
        shifts,
        raised,
        or_block (w + w) (up * 2 ^ w) down (a * 2 ^ w) b (shl_lt w w (mod-lt v (pow_pos w))) (lt_of_lt_of_le b-low (pow_mono (le-add_right w w))),
        or_shifted a w b b-low,
        pow-add 2 w w,
      ) (omega arith)

  exchanged-turned : (m v : ℕ) → turned w (m + m) (exchanged (low_fields w m) v) ≡ turned (w + w) m v
  unfolding turned low_fields
  exchanged-turned zero v = refl
  exchanged-turned (suc m) v =
      let two : suc m + suc m ≡ suc (suc (m + m)) = omega arith in
      rw (
        two,
        exchanged_lowest (low_fields w m) v,
        turned_two (m + m) (exchanged (low_fields w m) (v / 2 ^ (w + w))) (v % 2 ^ w) (v / 2 ^ w % 2 ^ w) (mod-lt v (pow_pos w)) (mod-lt (v / 2 ^ w) (pow_pos w)),
        exchanged-turned m (v / 2 ^ (w + w)),
        reversed_mod w v,
        reversed_mod w (v / 2 ^ w),
        reversed_add w w v,
        pow-add 2 w w,
      ) (omega arith)

  -- To reverse groups of w + w bits, let the two fields of each change places, and reverse the fields.
  pub swap_law : (m v : ℕ) → low_fields w m * 2 ^ w < 2 ^ 32 → turned w (m + m) (swapped w m v) ≡ turned (w + w) m v
  unfolding swapped
  swap_law m v h =
      let whole : bit_and v (low_fields w m) * 2 ^ w % 2 ^ 32 ≡ bit_and v (low_fields w m) * 2 ^ w = mod-eq_of_lt (lt_of_le_of_lt (mul-le-mul_right (2 ^ w) (and_le_r v (low_fields w m))) h) in
      rw whole (exchanged-turned m v)
