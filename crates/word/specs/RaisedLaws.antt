-- A whole number z is raised by B: r is z + B, which is not negative. Code computes with raised numbers, which are natural numbers,
-- and each law here says of an operation on raised numbers what it is on whole numbers. Assumes nothing.
use Rattle.std.specs.Prelude.{◌≡◌, ℕ, zero, suc, ◌+◌, ◌-◌, ◌<◌, ◌≤◌, not, ◌&&◌, ◌||◌, ℤ, pos, negsuc, ◌+ℤ◌, ◌-ℤ◌, neg_ℤ, nat_le, nat_lt, refl}
use Rattle.std.proofs.Common.{sym, ap, ◌∙◌, arith, lt-ltb, le-ltb, le-leb}
use Rattle.std.proofs.Math.IntN.{sub_ℕ, suc_ℤ}
use Rattle.std.proofs.lemmas.Bool.{lt-leb}
use Rattle.manual.specs.Word.{signed_at, in_half, negative}
use Rattle.manual.specs.Emac.{in_whole}
use Rattle.word.specs.TestLaws.{by-lt}
use Rattle.word.specs.SignedLaws.{signed_pos, signed-neg}

abbrev pub Up : ℕ → ℤ → ℕ → Type 0
Up B (pos n) r = r ≡ B + n
Up B (negsuc n) r = r + suc n ≡ B

-- the same number raised by more
pub higher : (B C : ℕ) (z : ℤ) (r : ℕ) → B ≤ C → Up B z r → Up C z (r + (C - B))
higher B C (pos n) r h u = omega arith
higher B C (negsuc n) r h u = omega arith

-- ---- sums and differences

pub up_sub : (B a b r : ℕ) → r + b ≡ B + a → Up B (sub_ℕ a b) r
up_sub B a b r e = by-lt a b
    (λ h. rw (lt-ltb a b h) (low h))
    (λ h. rw (le-ltb a b h) (high h))
  where
    low : a < b → r + suc (b - suc a) ≡ B
    low h = omega arith

    high : b ≤ a → r ≡ B + (a - b)
    high h = omega arith

pub up_neg : (B n : ℕ) → n ≤ B → Up B (neg_ℤ (pos n)) (B - n)
up_neg B zero h = omega arith
up_neg B (suc n) h = omega arith

pub plus : (B : ℕ) (z w : ℤ) (r s : ℕ) → Up B z r → Up B w s → B ≤ r + s → Up B (z +ℤ w) (r + s - B)
plus B (pos a) (pos b) r s u v h = omega arith
plus B (pos a) (negsuc b) r s u v h = up_sub B a (suc b) (r + s - B) (omega arith)
plus B (negsuc a) (pos b) r s u v h = up_sub B b (suc a) (r + s - B) (omega arith)
plus B (negsuc a) (negsuc b) r s u v h = omega arith

-- each raised by its own number: the sum is raised by their sum
pub plus-both : (B C : ℕ) (z w : ℤ) (r s : ℕ) → Up B z r → Up C w s → Up (B + C) (z +ℤ w) (r + s)
plus-both B C (pos a) (pos b) r s u v = omega arith
plus-both B C (pos a) (negsuc b) r s u v = up_sub (B + C) a (suc b) (r + s) (omega arith)
plus-both B C (negsuc a) (pos b) r s u v = up_sub (B + C) b (suc a) (r + s) (omega arith)
plus-both B C (negsuc a) (negsuc b) r s u v = omega arith

-- a difference does not depend on what both are raised by: it can be raised by any C
pub minus-to : (B C : ℕ) (z w : ℤ) (r s : ℕ) → Up B z r → Up B w s → s ≤ r + C → Up C (z -ℤ w) (r + C - s)
minus-to B C (pos a) (pos zero) r s u v h = omega arith
minus-to B C (negsuc a) (pos zero) r s u v h = up_sub C 0 (suc a) (r + C - s) (omega arith)
minus-to B C (pos a) (pos (suc b)) r s u v h = up_sub C a (suc b) (r + C - s) (omega arith)
minus-to B C (negsuc a) (pos (suc b)) r s u v h = omega arith
minus-to B C (pos a) (negsuc b) r s u v h = omega arith
minus-to B C (negsuc a) (negsuc b) r s u v h = up_sub C (suc b) (suc a) (r + C - s) (omega arith)

pub minus : (B : ℕ) (z w : ℤ) (r s : ℕ) → Up B z r → Up B w s → s ≤ r + B → Up B (z -ℤ w) (r + B - s)
minus B z w r s u v h = minus-to B B z w r s u v h

-- with a natural number
pub plus_nat : (B : ℕ) (z : ℤ) (r n : ℕ) → Up B z r → Up B (z +ℤ pos n) (r + n)
plus_nat B (pos a) r n u = omega arith
plus_nat B (negsuc a) r n u = up_sub B n (suc a) (r + n) (omega arith)

pub minus_nat : (B : ℕ) (z : ℤ) (r n : ℕ) → Up B z r → n ≤ r → Up B (z -ℤ pos n) (r - n)
minus_nat B z r n u h = let e : r + B - (B + n) ≡ r - n = omega arith in rw e at (minus B z (pos n) r (B + n) u refl (omega arith))

pub next : (B : ℕ) (z : ℤ) (r : ℕ) → Up B z r → Up B (suc_ℤ z) (r + 1)
next B (pos n) r u = omega arith
next B (negsuc zero) r u = omega arith
next B (negsuc (suc n)) r u = omega arith

-- ---- the number of a pattern

pub signed_up : (B H a r : ℕ) → (a < H → r ≡ B + a) → (H ≤ a → r + (H + H) ≡ B + a) → a < H + H → Up B (signed_at H a) r
signed_up B H a r f g k = by-lt a H
    (λ l. up_pos l (f l))
    (λ l. up_neg' l (g l))
  where
    up_pos : a < H → r ≡ B + a → Up B (signed_at H a) r
    up_pos l e = rw (signed_pos H a l) e

    up_neg' : H ≤ a → r + (H + H) ≡ B + a → Up B (signed_at H a) r
    up_neg' l e = rw (signed-neg H a l) (omega arith)

-- ---- tests

pub not_within : (lo hi r : ℕ) → lo ≤ hi → not (nat_le lo r && nat_lt r hi) ≡ (nat_lt r lo || nat_le hi r)
not_within lo hi r l = by-lt r lo
    (λ h. rw (lt-leb lo r h, lt-ltb r lo h))
    (λ h. by-lt r hi
    (λ k. rw (le-leb lo r h, lt-ltb r hi k, le-ltb r lo h, lt-leb hi r k))
    (λ k. rw (le-leb lo r h, le-ltb r hi k, le-ltb r lo h, le-leb hi r k)))

pub up-negative : (B : ℕ) (z : ℤ) (r : ℕ) → Up B z r → negative z ≡ nat_lt r B
up-negative B (pos n) r u = sym (le-ltb r B (omega arith))
up-negative B (negsuc n) r u = sym (lt-ltb r B (omega arith))

pub up-half : (B H : ℕ) (z : ℤ) (r : ℕ) → H ≤ B → Up B z r → in_half H z ≡ (nat_le (B - H) r && nat_lt r (B + H))
up-half B H (pos n) r h u = by-lt n H
    (λ k. rw (lt-ltb n H k, le-leb (B - H) r (omega arith), lt-ltb r (B + H) (omega arith)))
    (λ k. rw (le-ltb n H k, le-leb (B - H) r (omega arith), le-ltb r (B + H) (omega arith)))
up-half B H (negsuc n) r h u = by-lt n H
    (λ k. rw (lt-ltb n H k, le-leb (B - H) r (omega arith), lt-ltb r (B + H) (omega arith)))
    (λ k. rw (le-ltb n H k, lt-leb (B - H) r (omega arith)))

pub up-whole : (B M : ℕ) (z : ℤ) (r : ℕ) → Up B z r → in_whole M z ≡ (nat_le B r && nat_lt r (B + M))
up-whole B M (pos n) r u = by-lt n M
    (λ k. rw (lt-ltb n M k, le-leb B r (omega arith), lt-ltb r (B + M) (omega arith)))
    (λ k. rw (le-ltb n M k, le-leb B r (omega arith), le-ltb r (B + M) (omega arith)))
up-whole B M (negsuc n) r u = rw (lt-leb B r (omega arith))

pub out-half : (B H : ℕ) (z : ℤ) (r : ℕ) → H ≤ B → Up B z r → not (in_half H z) ≡ (nat_lt r (B - H) || nat_le (B + H) r)
out-half B H z r h u = ap not (up-half B H z r h u) ∙ not_within (B - H) (B + H) r (omega arith)

pub out-whole : (B M : ℕ) (z : ℤ) (r : ℕ) → Up B z r → not (in_whole M z) ≡ (nat_lt r B || nat_le (B + M) r)
out-whole B M z r u = ap not (up-whole B M z r u) ∙ not_within B (B + M) r (omega arith)
