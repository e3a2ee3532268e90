-- Tests on numbers: what each way of one says, and what the default of a `match` says. Assumes nothing.
use Rattle.std.specs.Prelude.{◌≡◌, ℕ, zero, suc, ◌+◌, ◌-◌, ◌<◌, ◌≤◌, Bool, true, false, cond, ◌≢◌, nat_le, nat_lt, refl}
use Rattle.std.specs.Bool.{beq}
use Rattle.std.proofs.Common.{arith, leb-true, leb-false, ltb-true, ltb-false, lt-ltb, le-ltb}

-- the test `leb a b`, with what it says
pub data Tested (a b : ℕ) : Bool → Type 0 where
  yes : a ≤ b → Tested a b true
  no : b < a → Tested a b false

by_test : (a b : ℕ) (t : Bool) → nat_le a b ≡ t → Tested a b t
by_test a b true e = yes (leb-true a b e)
by_test a b false e = no (leb-false a b e)

pub tested : (a b : ℕ) → Tested a b (nat_le a b)
tested a b = by_test a b (nat_le a b) refl

-- by cases of an order
pub by-lt {ℓ} : {P : Type ℓ} (a b : ℕ) → (a < b → P) → (b ≤ a → P) → P
by-lt {P = P} a b f g = go (nat_lt a b) refl
  where
    go : (t : Bool) → nat_lt a b ≡ t → P
    go true e = f (ltb-true a b e)
    go false e = g (ltb-false a b e)

pub beq_true : (b : Bool) → b ≡ beq true b
beq_true true = refl
beq_true false = refl

-- ---- the default of a `match` on a number

-- none of the n keys from `first` on, in the form that `.match .rest` has at arms first, first + 1, ..
abbrev pub NoneOf : ℕ → ℕ → ℕ → Type 0
NoneOf first zero x = Unit {0}
NoneOf first (suc n) x = NoneOf first n x × (x ≢ first + n)

abbrev pub NoneBelow : ℕ → ℕ → Type 0
NoneBelow zero x = Unit {0}
NoneBelow (suc n) x = NoneBelow n x × (x ≢ n)

not_at : (n x : ℕ) → n ≤ x → (x ≢ n) → suc n ≤ x
not_at n x l e = omega arith

pub past-from : (first n x : ℕ) → first ≤ x → NoneOf first n x → first + n ≤ x
past-from first zero x l h = omega arith
past-from first (suc n) x l h = omega (arith, not_at (first + n) x (past-from first n x l h.0) h.1)

pub past : (n x : ℕ) → NoneBelow n x → n ≤ x
past zero x h = omega arith
past (suc n) x h = omega (arith, not_at n x (past n x h.0) h.1)

-- a row that is none of the n from `first` on has its place past them, where a row below `first` is placed at `count`
pub other_row : (first n count row : ℕ) → n ≤ count → NoneOf first n row → n ≤ cond (nat_lt row first) count (row - first)
other_row first n count row l h = by-lt row first
    (λ b. rw (lt-ltb row first b) l)
    (λ b. rw (le-ltb row first b) (omega (arith, past-from first n row b h)))
