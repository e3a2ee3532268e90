-- When a call is refused before it begins, and with which reply. Assumes nothing.
use Rattle.std.specs.Prelude.{◌≤◌, ◌≡◌, Bool, cond, [], ◌∷◌, ◌↔◌, length}
use Rattle.std.proofs.Math.Path.{refl}
use Rattle.std.proofs.Common.{sym, arith}
use Rattle.std.proofs.Math.Bool.{true, false}
use Rattle.std.proofs.lemmas.Bool.{false≢true}
use Rattle.std.proofs.Math.Logic.{inl, inr}
use borrow.Author.Tests.{ltb-true, ltb-false}
use Rattle.manual.specs.declared.Cpu.{Cpu}
use Rattle.manual.specs.declared.Reply.TheVariants.{Done, TooLong as Long, NotAdmitted}
use Rattle.manual.specs.Reply.{number_of, is_done}
use Rattle.manual.specs.Admitted.{admitted}
use Rattle.manual.specs.Lent.{Lent, longest, too_long, or_else, lent_refusal, state_refusal, first_refusal}
use Rattle.word.specs.TestLaws.{by-lt}
use Rattle.state.specs.FirstLaws.{first_done, first-lent, first-admitted}
use Rattle.demands.specs.Exact.{TooLong, Usable, Ready, OneOf}

-- ---- the test of the length

module _ (l : Lent) where
  not-long : too_long l ≡ false → TooLong l → ⊥
  not-long e o = omega (arith, ltb-false longest (length l.storage) e)

  pub usable-is : Usable l ↔ (TooLong l → ⊥)
  unfolding lent_refusal
  usable-is = by (too_long l) refl
    where
      by : (b : Bool) → too_long l ≡ b → (is_done (cond b Long Done) ≡ true) ↔ (TooLong l → ⊥)
      by true e = (λ h. absurd (false≢true h), λ n. absurd (n (ltb-true _ _ e)))
      by false e = (λ h. not-long e, λ n. refl)

  -- a state that is not admitted, which is refused after what is lent
  pub lent_1 : (number_of (or_else (lent_refusal l) NotAdmitted) ≡ 1) ↔ TooLong l
  unfolding lent_refusal
  lent_1 = by (too_long l) refl
    where
      by : (b : Bool) → too_long l ≡ b → (number_of (or_else (cond b Long Done) NotAdmitted) ≡ 1) ↔ TooLong l
      by true e = (λ h. ltb-true _ _ e, λ o. refl)
      by false e = (λ h. absurd (omega arith), λ o. absurd (not-long e o))

  pub lent_2 : (number_of (or_else (lent_refusal l) NotAdmitted) ≡ 2) ↔ Usable l
  unfolding lent_refusal
  lent_2 = by (too_long l)
    where
      by : (b : Bool) → (number_of (or_else (cond b Long Done) NotAdmitted) ≡ 2) ↔ (is_done (cond b Long Done) ≡ true)
      by true = (λ h. absurd (omega arith), λ h. absurd (false≢true h))
      by false = (λ h. refl, λ h. refl)

  pub lent_of : OneOf (1 ∷ 2 ∷ []) (number_of (or_else (lent_refusal l) NotAdmitted))
  unfolding lent_refusal
  lent_of = by (too_long l)
    where
      by : (b : Bool) → OneOf (1 ∷ 2 ∷ []) (number_of (or_else (cond b Long Done) NotAdmitted))
      by true = inl refl
      by false = inr (inl refl)

-- ---- all of them

module _ (s : Cpu) (l : Lent) where
  pub ready-is : Ready s l ↔ (Usable l × (admitted s ≡ true))
  ready-is = (λ h. (first-lent s l h, first-admitted s l h), λ h. first_done s l h.0 h.1)

  pub first_1 : (number_of (first_refusal s l) ≡ 1) ↔ TooLong l
  unfolding first_refusal lent_refusal state_refusal
  first_1 = by (too_long l) (admitted s) refl
    where
      by : (a b : Bool) → too_long l ≡ a → (number_of (or_else (cond a Long Done) (cond b Done NotAdmitted)) ≡ 1) ↔ TooLong l
      by true b e = (λ h. ltb-true _ _ e, λ o. refl)
      by false true e = (λ h. absurd (omega arith), λ o. absurd (not-long l e o))
      by false false e = (λ h. absurd (omega arith), λ o. absurd (not-long l e o))

  pub first_2 : (number_of (first_refusal s l) ≡ 2) ↔ (Usable l × (admitted s ≡ false))
  unfolding first_refusal lent_refusal state_refusal
  first_2 = by (too_long l) (admitted s)
    where
      by : (a b : Bool) → (number_of (or_else (cond a Long Done) (cond b Done NotAdmitted)) ≡ 2) ↔ ((is_done (cond a Long Done) ≡ true) × (b ≡ false))
      by true b = (λ h. absurd (omega arith), λ h. absurd (false≢true h.0))
      by false true = (λ h. absurd (omega arith), λ h. absurd (false≢true (sym h.1)))
      by false false = (λ h. (refl, refl), λ h. refl)

  pub first_of : OneOf (0 ∷ 1 ∷ 2 ∷ []) (number_of (first_refusal s l))
  unfolding first_refusal lent_refusal state_refusal
  first_of = by (too_long l) (admitted s)
    where
      by : (a b : Bool) → OneOf (0 ∷ 1 ∷ 2 ∷ []) (number_of (or_else (cond a Long Done) (cond b Done NotAdmitted)))
      by true b = inr (inl refl)
      by false true = inl refl
      by false false = inr (inr (inl refl))

  -- where none fails memory is short
  pub short_of : Ready s l → length l.storage ≤ longest
  short_of h = by-lt longest (length l.storage) (λ o. absurd ((usable-is l).0 (first-lent s l h) o)) (λ h. h)
