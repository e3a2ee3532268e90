-- The flags of a pattern, and PAVn in MACSR. Assumes nothing.
use Rattle.std.specs.Prelude.{◌≡◌, ℕ, suc, ◌+◌, ◌-◌, ◌*◌, ◌/◌, ◌%◌, ◌^◌, ◌<◌, ◌≤◌, Bool, not, ◌&&◌, ◌==◌, nat_le, nat_lt}
use Rattle.std.proofs.Common.{◌∙◌, arith, lt-ltb, le-ltb, le-leb}
use Rattle.std.proofs.lemmas.Bool.{lt-leb}
use Rattle.manual.specs.declared.Mode.{Mode}
use Rattle.manual.specs.Word.{bit, signed_at, in_half}
use Rattle.manual.specs.Bits.{with_bit}
use Rattle.manual.specs.Emac.{with_pav, extension_in_use, with_flags}
use Rattle.word.specs.TestLaws.{by-lt}
use Rattle.word.specs.SignedLaws.{signed_pos, signed-neg}
use Rattle.word.specs.WordLaws.{bit_below}
use Rattle.word.specs.BitLaws.{with_parts_lem, with_below}

-- a pattern whose number is none of those below H
pub beyond : (H a : ℕ) → 0 < H → H ≤ 2 ^ 47 → not (in_half H (signed_at (2 ^ 47) a)) ≡ (nat_le H a && nat_lt a (2 ^ 48 - H))
beyond H a o h = by-lt a (2 ^ 47)
    (λ l. by-lt a H
    (λ j. rw (signed_pos (2 ^ 47) a l, lt-ltb a H j, lt-leb H a j))
    (λ j. rw (signed_pos (2 ^ 47) a l, le-ltb a H j, le-leb H a j, lt-ltb a (2 ^ 48 - H) (omega arith))))
    (λ l. by-lt a (2 ^ 48 - H)
    (λ j. rw (signed-neg (2 ^ 47) a l, le-ltb (2 ^ 48 - suc a) H (omega arith), le-leb H a (omega arith), lt-ltb a (2 ^ 48 - H) j))
    (λ j. rw (signed-neg (2 ^ 47) a l, lt-ltb (2 ^ 48 - suc a) H (omega arith), le-leb H a (omega arith), le-ltb a (2 ^ 48 - H) j)))

pub not-below : (n a : ℕ) → not (nat_lt a n) ≡ nat_le n a
not-below n a = by-lt a n (λ h. rw (lt-ltb a n h, lt-leb n a h)) (λ h. rw (le-ltb a n h, le-leb n a h))

-- ---- PAVn, by the accumulator's number

pub data Numbered (i : ℕ) : Type 0 where
  first : i % 4 ≡ 0 → Numbered i
  second : i % 4 ≡ 1 → Numbered i
  third : i % 4 ≡ 2 → Numbered i
  fourth : i % 4 ≡ 3 → Numbered i

pub numbered : (i : ℕ) → Numbered i
numbered i = by-lt (i % 4) 2
    (λ h. by-lt (i % 4) 1 (λ g. first (omega arith)) (λ g. second (omega arith)))
    (λ h. by-lt (i % 4) 3 (λ g. third (omega arith)) (λ g. fourth (omega arith)))

module _ (m : ℕ) (b : Bool) where
  -- PAVn is none of the eight low bits
  pub pav-high : (i : ℕ) → with_pav m i b / 16 * 16 ≡ with_pav (m / 16 * 16) i b
  pav-high i = go (numbered i)
    where
      go : Numbered i → with_pav m i b / 16 * 16 ≡ with_pav (m / 16 * 16) i b
      go (first e) = rw (e, with_parts_lem 8 m b, with_parts_lem 8 (m / 16 * 16) b) (omega (arith, bit_below b))
      go (second e) = rw (e, with_parts_lem 9 m b, with_parts_lem 9 (m / 16 * 16) b) (omega (arith, bit_below b))
      go (third e) = rw (e, with_parts_lem 10 m b, with_parts_lem 10 (m / 16 * 16) b) (omega (arith, bit_below b))
      go (fourth e) = rw (e, with_parts_lem 11 m b, with_parts_lem 11 (m / 16 * 16) b) (omega (arith, bit_below b))

  -- a MACSR of w bits stays one
  pub pav-below : (w i : ℕ) → 12 ≤ w → m < 2 ^ w → with_pav m i b < 2 ^ w
  pav-below w i h l = with_below (8 + i % 4) m b w (omega arith) l

-- the four low bits, the highest first
next_low : (h c d v : ℕ) → v ≡ h * 8 + c → c < 8 → v / 8 * 8 + (d * 4 + v % 4) ≡ (h * 2 + d) * 4 + c % 4
next_low h c d v e l = omega arith

then_low : (h c d v : ℕ) → v ≡ h * 4 + c → c < 4 → v / 4 * 4 + (d * 2 + v % 2) ≡ (h * 2 + d) * 2 + c % 2
then_low h c d v e l = omega arith

last-low : (h c d v : ℕ) → v ≡ h * 2 + c → c < 2 → v / 2 * 2 + (d * 1 + v % 1) ≡ h * 2 + d
last-low h c d v e l = omega arith

pub low_flags : (m : ℕ) (p q r s : Bool) → with_bit 0 p (with_bit 1 q (with_bit 2 r (with_bit 3 s m))) ≡ m / 16 * 16 + (bit p + bit q * 2 + bit r * 4 + bit s * 8)
low_flags m p q r s =
    let n3 : with_bit 3 s m ≡ (m / 16 * 2 + bit s) * 8 + m % 8 = with_parts_lem 3 m s ∙ omega arith in
    let n2 : with_bit 2 r (with_bit 3 s m) ≡ ((m / 16 * 2 + bit s) * 2 + bit r) * 4 + m % 8 % 4 = with_parts_lem 2 _ r ∙ next_low (m / 16 * 2 + bit s) (m % 8) (bit r) _ n3 (omega arith) in
    let n1 : with_bit 1 q (with_bit 2 r (with_bit 3 s m)) ≡ (((m / 16 * 2 + bit s) * 2 + bit r) * 2 + bit q) * 2 + m % 8 % 4 % 2 = with_parts_lem 1 _ q ∙ then_low ((m / 16 * 2 + bit s) * 2 + bit r) (m % 8 % 4) (bit q) _ n2 (omega arith) in
    let n0 : with_bit 0 p (with_bit 1 q (with_bit 2 r (with_bit 3 s m))) ≡ (((m / 16 * 2 + bit s) * 2 + bit r) * 2 + bit q) * 2 + bit p = with_parts_lem 0 _ p ∙ last-low (((m / 16 * 2 + bit s) * 2 + bit r) * 2 + bit q) (m % 8 % 4 % 2) (bit p) _ n1 (omega arith) in
    n0 ∙ omega arith

module _ (k : Mode) (m i : ℕ) (over : Bool) (a : ℕ) where
  -- as the code finds it
  pub with_flags-is : with_flags k m i over a ≡ with_pav (m / 16 * 16) i over + (bit (extension_in_use k a) + bit over * 2 + bit (a == 0) * 4 + bit (nat_le (2 ^ 47) a) * 8)
  unfolding with_flags
  with_flags-is = rw (low_flags (with_pav m i over) (extension_in_use k a) over (a == 0) (nat_le (2 ^ 47) a), pav-high m over i)

  pub with_flags-below : (w : ℕ) → 12 ≤ w → m < 2 ^ w → with_flags k m i over a < 2 ^ w
  unfolding with_flags
  with_flags-below w h l =
      with_below 0 _ _ w (omega arith) (with_below 1 _ _ w (omega arith) (with_below 2 _ _ w (omega arith) (with_below 3 _ _ w (omega arith) (pav-below m over w i h l))))
