-- Quotients by a word, the signed one from that of longs: what the returns of `word_quotient` and `signed_word_quotient` ask. Assumes nothing.
use Rattle.std.specs.Prelude.{Option, Some, None}
use mathlib.Core.Path.{◌≡◌, refl, sym, ap, ◌∙◌}
use mathlib.Core.Bool.{Bool, true, false, cond}
use Prim.Native.Nat.{ℕ, ◌%◌, ◌^◌, ◌≤◌, ◌<◌}
use native.Mathlib.Omega.{arith}
use lib.IntN.{ℤ, pos, negsuc}
use lib.Signed.{quot_z, rem_z}
use lib.Dec.{eqb, ltb}
use borrow.Author.Tests.{lt-ltb, le-ltb, ne_eqb}
use Rattle.manual.specs.declared.Size.TheVariants.{Word, Long}
use Rattle.manual.specs.declared.Quotient.{Quotient}
use Rattle.manual.specs.Word.{signed, fits, mod_z, plus, cut, sign_extended}
use Rattle.manual.specs.Divide.{signed_quotient, signed_word_quotient}
use Rattle.word.specs.TestLaws.{by-lt}
use Rattle.word.specs.SignedLaws.{signed_pos, signed-neg}
use Rattle.word.specs.WordLaws.{cut_below, extended_pos, extended-neg}
use Rattle.arith.proofs.LongLaws.{long_pos, long-neg}

-- by 0 there is no quotient, whether it is small or not
pub either_way : (t : Bool) → None ≡ cond {A = Option Quotient} t None None
either_way true = refl
either_way false = refl

-- a quotient and a remainder of longs as words, where the quotient is one
abbrev low_words : Quotient → Option Quotient
low_words x =
    cond (ltb (plus x.quotient 0x8000) 0x1_0000)
    (Some (record { quotient = x.quotient % 0x1_0000; remainder = x.remainder % 0x1_0000 }))
    None

abbrev pub narrowed : Option Quotient → Option Quotient
narrowed (Some x) = low_words x
narrowed None = None

-- ---- numbers

low_word : (r : ℤ) → mod_z r (2 ^ 32) % 0x1_0000 ≡ mod_z r 0x1_0000
low_word (pos n) = omega arith
low_word (negsuc n) = omega arith

module _ (q r : ℤ) where
  -- of longs, as words; and of words
  abbrev Narrows : Type 0
  Narrows =
      narrowed (cond (fits Long q) (Some (record { quotient = mod_z q (2 ^ 32); remainder = mod_z r (2 ^ 32) })) None)
      ≡ cond (fits Word q) (Some (record { quotient = mod_z q 0x1_0000; remainder = mod_z r 0x1_0000 })) None

  -- n is q, or -1 - q where q is negative: it alone says which sizes q fits
  by_size : (n : ℕ) → fits Long q ≡ ltb n 0x8000_0000 → fits Word q ≡ ltb n 0x8000
      → (n < 0x8000 → plus (mod_z q (2 ^ 32)) 0x8000 < 0x1_0000)
      → (0x8000 ≤ n → n < 0x8000_0000 → 0x1_0000 ≤ plus (mod_z q (2 ^ 32)) 0x8000) → Narrows
  by_size n a b small large = by-lt n 0x8000
      (λ l. rw (a, b, lt-ltb n 0x8000_0000 (omega arith), lt-ltb n 0x8000 l, lt-ltb (plus (mod_z q (2 ^ 32)) 0x8000) 0x1_0000 (small l), low_word q, low_word r))
      (λ l. by-lt n 0x8000_0000
      (λ k. rw (a, b, lt-ltb n 0x8000_0000 k, le-ltb n 0x8000 l, le-ltb (plus (mod_z q (2 ^ 32)) 0x8000) 0x1_0000 (large l k)))
      (λ k. rw (a, b, le-ltb n 0x8000_0000 k, le-ltb n 0x8000 l)))

narrows : (q r : ℤ) → Narrows q r
unfolding plus
narrows (pos n) r = by_size (pos n) r n refl refl (λ l. omega arith) (λ l k. omega arith)
narrows (negsuc n) r = by_size (negsuc n) r n refl refl (λ l. omega arith) (λ l k. omega arith)

-- ---- the sign-extended word

extended : (b : ℕ) → signed Long (sign_extended Word b) ≡ signed Word b
extended b = by-lt (cut Word b) 0x8000
    (λ l. let e = extended_pos Word b l in
    long_pos (sign_extended Word b) (omega arith) ∙ ap pos (sym e) ∙ sym (signed_pos 0x8000 (cut Word b) l))
    (λ l. let e = extended-neg Word b l in
    long-neg (sign_extended Word b) (omega arith) (omega (arith, cut_below Word b)) ∙ ap negsuc (omega (arith, cut_below Word b))
    ∙ sym (signed-neg 0x8000 (cut Word b) l))

zero_alike : (b : ℕ) → eqb (sign_extended Word b) 0 ≡ eqb (cut Word b) 0
zero_alike b = by-lt (cut Word b) 0x8000
    (λ l. ap (λ (v : ℕ). eqb v 0) (sym (extended_pos Word b l)))
    (λ l. ne_eqb (sign_extended Word b) 0 (λ z. omega (arith, extended-neg Word b l)) ∙ sym (ne_eqb (cut Word b) 0 (λ z. omega arith)))

unless_zero : (t : Bool) (x y : Option Quotient) → narrowed x ≡ y → narrowed (cond t None x) ≡ cond t None y
unless_zero true x y e = refl
unless_zero false x y e = e

pub narrow : (a b : ℕ) → narrowed (signed_quotient a (sign_extended Word b)) ≡ signed_word_quotient a b
unfolding signed_quotient signed_word_quotient
narrow a b =
    rw (zero_alike b, extended b) (unless_zero (eqb (cut Word b) 0) _ _ (narrows (quot_z (signed Long a) (signed Word b)) (rem_z (signed Long a) (signed Word b))))
