-- An accumulator's pattern, its number in the mode, and its number in the state block. Assumes nothing.
use Rattle.std.specs.Prelude.{◌≡◌, ℕ, suc, ◌+◌, ◌-◌, ◌%◌, ◌^◌, ◌<◌, ◌≤◌, Bool, true, false, cond, ◌||◌, pos, negsuc, nat_le, nat_lt}
use Rattle.std.proofs.Common.{sym, ap, ◌∙◌, mod-eq_of_lt, arith}
use Rattle.std.proofs.Math.Bool.{or-false}
use borrow.Author.Tests.{ltb-true, leb-true, lt-ltb, le-ltb, le-leb, lt-leb}
use Rattle.manual.specs.declared.Mode.{Mode}
use Rattle.manual.specs.Word.{signed_at, mod_z}
use Rattle.manual.specs.Emac.{unsigned, value_of, in_range, block_number, block_in_range}
use Rattle.word.specs.TestLaws.{by-lt}
use Rattle.word.specs.SignedLaws.{signed_pos, signed-neg}
use Rattle.emac.specs.BoolLaws.{by_bool}
use Rattle.emac.specs.EmacKept.{mod_z-below}

module _ (k : Mode) (a : ℕ) where
  pub block-unsigned : unsigned k ≡ true → a % 2 ^ 48 ≡ block_number k a
  unfolding block_number
  block-unsigned e = rw e (omega arith)

  pub block-low : unsigned k ≡ false → a % 2 ^ 48 < 2 ^ 47 → a % 2 ^ 48 ≡ block_number k a
  unfolding block_number
  block-low e l = rw (e, signed_pos (2 ^ 47) (a % 2 ^ 48) l) (omega arith)

  pub block-high : unsigned k ≡ false → 2 ^ 47 ≤ a % 2 ^ 48 → a % 2 ^ 48 + 0xFFFF_0000_0000_0000 ≡ block_number k a
  unfolding block_number
  block-high e l = rw (e, signed-neg (2 ^ 47) (a % 2 ^ 48) l) (omega arith)

  -- a pattern stands for what its 48 bits stand for
  pub value-cut : value_of k (a % 2 ^ 48) ≡ value_of k a
  value-cut = let e : a % 2 ^ 48 % 2 ^ 48 ≡ a % 2 ^ 48 = omega arith in rw e

module _ (k : Mode) (b : ℕ) (h : b < 2 ^ 64) where
  pub in_unsigned : unsigned k ≡ true → nat_lt b (2 ^ 48) ≡ block_in_range k b
  unfolding block_in_range
  in_unsigned e = by-lt b (2 ^ 63)
      (λ l. rw (e, signed_pos (2 ^ 63) b l))
      (λ l. rw (e, signed-neg (2 ^ 63) b l, le-ltb b (2 ^ 48) (omega arith)))

  pub in_signed : unsigned k ≡ false → (nat_lt b (2 ^ 47) || nat_le 0xFFFF_8000_0000_0000 b) ≡ block_in_range k b
  unfolding block_in_range
  in_signed e = by-lt b (2 ^ 63)
      (λ l. rw (e, signed_pos (2 ^ 63) b l, lt-leb 0xFFFF_8000_0000_0000 b (omega arith)) (or-false (nat_lt b (2 ^ 47))))
      (λ l. by-lt b 0xFFFF_8000_0000_0000
      (λ j. rw (e, signed-neg (2 ^ 63) b l, le-ltb b (2 ^ 47) (omega arith), lt-leb 0xFFFF_8000_0000_0000 b j, le-ltb (2 ^ 64 - suc b) (2 ^ 47) (omega arith)))
      (λ j. rw (e, signed-neg (2 ^ 63) b l, le-ltb b (2 ^ 47) (omega arith), le-leb 0xFFFF_8000_0000_0000 b j, lt-ltb (2 ^ 64 - suc b) (2 ^ 47) (omega arith))))

  -- the low 48 bits of a number in range stand for it
  pub pattern-value : block_in_range k b ≡ true → value_of k b ≡ signed_at (2 ^ 63) b
  pattern-value q = by_bool (unsigned k)
      (λ e. let l : b < 2 ^ 48 = ltb-true b (2 ^ 48) (in_unsigned e ∙ q) in
      rw (e, mod-eq_of_lt l, signed_pos (2 ^ 63) b (omega arith)))
      (λ e. by-lt b (2 ^ 47)
      (λ l. rw (e, signed_pos (2 ^ 63) b (omega arith), signed_pos (2 ^ 47) (b % 2 ^ 48) (omega arith)) (ap pos (omega arith)))
      (λ l. let j : 0xFFFF_8000_0000_0000 ≤ b = leb-true _ _ (ap (λ (t : Bool). t || nat_le 0xFFFF_8000_0000_0000 b) (sym (le-ltb b (2 ^ 47) l)) ∙ in_signed e ∙ q) in
      rw (e, signed-neg (2 ^ 63) b (omega arith), signed-neg (2 ^ 47) (b % 2 ^ 48) (omega arith)) (ap negsuc (omega arith))))

  signed-block : mod_z (signed_at (2 ^ 63) b) (2 ^ 64) ≡ b
  signed-block = by-lt b (2 ^ 63)
      (λ l. rw (signed_pos (2 ^ 63) b l) (omega arith))
      (λ l. rw (signed-neg (2 ^ 63) b l) (omega arith))

  -- the block's number of a number's pattern is the number
  pub block-pattern : block_in_range k b ≡ true → block_number k (b % 2 ^ 48) ≡ b
  unfolding block_number
  block-pattern q = rw (value-cut k b, pattern-value q) signed-block

module _ (k : Mode) (a : ℕ) where
  number_cut : block_number k a % 2 ^ 48 ≡ a % 2 ^ 48
  number_cut = by_bool (unsigned k)
      (λ e. rw (sym (block-unsigned k a e)) (omega arith))
      (λ e. by-lt (a % 2 ^ 48) (2 ^ 47)
      (λ l. rw (sym (block-low k a e l)) (omega arith))
      (λ l. rw (sym (block-high k a e l)) (omega arith)))

  -- the pattern of a pattern's number is the pattern
  pub pattern-block : a < 2 ^ 48 → block_number k a % 2 ^ 48 ≡ a
  pattern-block h = number_cut ∙ mod-eq_of_lt h

  pub block-below : block_number k a < 2 ^ 64
  unfolding block_number
  block-below = mod_z-below (value_of k a) (2 ^ 64) (omega arith)

  pub block-admitted : block_in_range k (block_number k a) ≡ true
  block-admitted = by_bool (unsigned k)
      (λ e. rw (sym (block-unsigned k a e), sym (in_unsigned k (a % 2 ^ 48) (omega arith) e)) (lt-ltb (a % 2 ^ 48) (2 ^ 48) (omega arith)))
      (λ e. by-lt (a % 2 ^ 48) (2 ^ 47)
      (λ l. rw (sym (block-low k a e l), sym (in_signed k (a % 2 ^ 48) (omega arith) e), lt-ltb (a % 2 ^ 48) (2 ^ 47) l))
      (λ l. rw (
        sym (block-high k a e l),
        sym (in_signed k (a % 2 ^ 48 + 0xFFFF_0000_0000_0000) (omega arith) e),
        le-ltb (a % 2 ^ 48 + 0xFFFF_0000_0000_0000) (2 ^ 47) (omega arith),
        le-leb 0xFFFF_8000_0000_0000 (a % 2 ^ 48 + 0xFFFF_0000_0000_0000) (omega arith),
      )))

  -- of a pattern of 48 bits nothing is cut
  pub value-whole : a < 2 ^ 48 → value_of k a ≡ cond (unsigned k) (pos a) (signed_at (2 ^ 47) a)
  value-whole h = rw (mod-eq_of_lt h)

  -- every pattern stands for a number in the mode's range, an admitted one for its own: so an admitted unit is what document 01 asks
  pub in_range_lem : in_range k (value_of k a) ≡ true
  in_range_lem = by_bool (unsigned k)
      (λ e. rw (e, lt-ltb (a % 2 ^ 48) (2 ^ 48) (omega arith)))
      (λ e. by-lt (a % 2 ^ 48) (2 ^ 47)
      (λ l. rw (e, signed_pos (2 ^ 47) (a % 2 ^ 48) l, lt-ltb (a % 2 ^ 48) (2 ^ 47) l))
      (λ l. rw (e, signed-neg (2 ^ 47) (a % 2 ^ 48) l, lt-ltb (2 ^ 48 - suc (a % 2 ^ 48)) (2 ^ 47) (omega arith))))
