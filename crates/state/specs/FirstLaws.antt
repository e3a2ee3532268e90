-- The first refusals: what it says that there is none, and what keeps it so. Assumes nothing.
use Rattle.std.specs.Prelude.{◌≡◌, Bool, true, false, cond, length}
use Rattle.std.proofs.Math.Path.{refl}
use Rattle.std.proofs.Common.{sym, ◌∙◌}
use Rattle.std.proofs.lemmas.Bool.{false≢true}
use Rattle.manual.specs.declared.Cpu.{Cpu}
use Rattle.manual.specs.declared.Reply.{Reply}
use Rattle.manual.specs.declared.Reply.TheVariants.{Done, NotAdmitted}
use Rattle.manual.specs.Memory.{Storage}
use Rattle.manual.specs.Reply.{is_done}
use Rattle.manual.specs.Admitted.{admitted}
use Rattle.manual.specs.Lent.{Lent, lent_on, or_else, lent_refusal, state_refusal, first_refusal}

-- ---- of two replies

both-done : (n k : Reply) → is_done n ≡ true → is_done k ≡ true → is_done (or_else n k) ≡ true
both-done n k p q = rw p q

or_else_lem : (n k : Reply) (b : Bool) → is_done n ≡ b → is_done (cond b k n) ≡ true → (is_done n ≡ true) × (is_done k ≡ true)
or_else_lem n k true e h = (e, h)
or_else_lem n k false e h = absurd (false≢true (sym e ∙ h))

state-done : (s : Cpu) (b : Bool) → admitted s ≡ b → is_done (cond b Done NotAdmitted) ≡ true → admitted s ≡ true
state-done s true e h = e
state-done s false e h = absurd (false≢true h)

-- ---- none fails

module _ (s : Cpu) (l : Lent) where
  pub first_done : is_done (lent_refusal l) ≡ true → admitted s ≡ true → is_done (first_refusal s l) ≡ true
  unfolding first_refusal state_refusal
  first_done p a = both-done (lent_refusal l) _ p (rw a refl)

  pub first-lent : is_done (first_refusal s l) ≡ true → is_done (lent_refusal l) ≡ true
  unfolding first_refusal
  first-lent h = (or_else_lem (lent_refusal l) (state_refusal s) (is_done (lent_refusal l)) refl h).0

  pub first-admitted : is_done (first_refusal s l) ≡ true → admitted s ≡ true
  unfolding first_refusal state_refusal
  first-admitted h =
      state-done s (admitted s) refl (or_else_lem (lent_refusal l) (state_refusal s) (is_done (lent_refusal l)) refl h).1

-- what is lent stays usable while storage keeps its length
pub lent-kept : (l : Lent) (b : Storage) → length b ≡ length l.storage → is_done (lent_refusal l) ≡ true → is_done (lent_refusal (lent_on l b)) ≡ true
unfolding lent_refusal
lent-kept l b e h = rw e h

-- so after a step
pub first-kept : (s s' : Cpu) (l : Lent) (b : Storage) → length b ≡ length l.storage → admitted s' ≡ true
    → is_done (first_refusal s l) ≡ true → is_done (first_refusal s' (lent_on l b)) ≡ true
first-kept s s' l b e a h = first_done s' (lent_on l b) (lent-kept l b e (first-lent s l h)) a
