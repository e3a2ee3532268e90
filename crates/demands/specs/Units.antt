-- The calls on a multiply-accumulate unit alone: each reply exactly when the document says, a refused call leaves the unit as it was, and every
-- call keeps an admitted unit admitted. Document: "Numbered replies". Assumes nothing.
use Rattle.std.specs.Prelude.{ℕ, ◌≤◌, ◌<◌, ◌≡◌, refl, Bool, true, false, cond, ◌↔◌, ltb}
use Rattle.manual.specs.declared.Emac.{Emac}
use Rattle.manual.specs.declared.Reply.TheVariants.{Done, NotAdmitted, OutOfRange}
use Rattle.manual.specs.Reply.{number_of}
use Rattle.manual.specs.Admitted.{emac_admitted}
use Rattle.manual.specs.declared.EmacAnswer.{EmacAnswer}
use Rattle.manual.specs.UnitCalls.{answer, changed, acc_changed, accumulate_call, set_macsr_call, set_acc_call, clear_acc_call}
use Rattle.emac_lent.specs.UnitKept.{accumulate_call-kept, set_macsr_call-kept, set_acc_call-kept, clear_acc_call-kept}
use Rattle.demands.specs.Refusals.{NotZero}
use Rattle.demands.specs.CallReplies.{pick, is_0, not_2, acc_tests, acc_0, acc_2, acc_6}

-- the answer a of a call on unit e that names no accumulator
pub record OnUnit (e : Emac) (a : EmacAnswer) : Type 0 where
  pub reply_0 : (number_of a.reply ≡ 0) ↔ (emac_admitted e ≡ true)
  pub reply_2 : (number_of a.reply ≡ 2) ↔ (emac_admitted e ≡ false)
  pub unchanged : NotZero a.reply → a.emac ≡ e
  pub kept : emac_admitted e ≡ true → emac_admitted a.emac ≡ true

-- the answer a of a call on accumulator i of unit e
pub record OnAccumulator (e : Emac) (i : ℕ) (a : EmacAnswer) : Type 0 where
  pub reply_0 : (number_of a.reply ≡ 0) ↔ ((emac_admitted e ≡ true) × (i < 4))
  pub reply_2 : (number_of a.reply ≡ 2) ↔ (emac_admitted e ≡ false)
  pub reply_6 : (number_of a.reply ≡ 6) ↔ ((emac_admitted e ≡ true) × (4 ≤ i))
  pub unchanged : NotZero a.reply → a.emac ≡ e
  pub kept : emac_admitted e ≡ true → emac_admitted a.emac ≡ true

pub record Units : Type 0 where
  pub of_accumulate : (e : Emac) (i scale : ℕ) (sub : Bool) (x y : ℕ) → OnAccumulator e i (accumulate_call e i scale sub x y)
  pub of_set_macsr : (e : Emac) (v : ℕ) → OnUnit e (set_macsr_call e v)
  pub of_set_acc : (e : Emac) (i v : ℕ) → OnAccumulator e i (set_acc_call e i v)
  pub of_clear_acc : (e : Emac) (i : ℕ) → OnAccumulator e i (clear_acc_call e i)

-- ---- the proofs: next is the unit where the call is done

module _ (e next : Emac) where
  number : number_of (changed e next).reply ≡ pick (emac_admitted e) 0 2
  number = by (emac_admitted e)
    where
      by : (a : Bool) → number_of (cond a (answer Done next) (answer NotAdmitted e)).reply ≡ pick a 0 2
      by true = refl
      by false = refl

  refused : NotZero (changed e next).reply → (changed e next).emac ≡ e
  refused = by (emac_admitted e)
    where
      by : (a : Bool) → let o : EmacAnswer = cond a (answer Done next) (answer NotAdmitted e) in NotZero o.reply → o.emac ≡ e
      by true h = absurd (h refl)
      by false h = refl

  on-unit : (emac_admitted e ≡ true → emac_admitted (changed e next).emac ≡ true) → OnUnit e (changed e next)
  on-unit k = record { reply_0 = rw number (is_0 (emac_admitted e)); reply_2 = rw number (not_2 (emac_admitted e)); unchanged = refused; kept = k }

  module _ (i : ℕ) where
    acc-number : number_of (acc_changed e i next).reply ≡ acc_tests (emac_admitted e) i
    acc-number = by (emac_admitted e) (ltb i 4)
      where
        by : (a b : Bool) → number_of (cond a (cond b (answer Done next) (answer OutOfRange e)) (answer NotAdmitted e)).reply ≡ pick a (pick b 0 6) 2
        by true true = refl
        by true false = refl
        by false b = refl

    acc-refused : NotZero (acc_changed e i next).reply → (acc_changed e i next).emac ≡ e
    acc-refused = by (emac_admitted e) (ltb i 4)
      where
        by : (a b : Bool) → let o : EmacAnswer = cond a (cond b (answer Done next) (answer OutOfRange e)) (answer NotAdmitted e) in NotZero o.reply → o.emac ≡ e
        by true true h = absurd (h refl)
        by true false h = refl
        by false b h = refl

    on_accumulator : (emac_admitted e ≡ true → emac_admitted (acc_changed e i next).emac ≡ true) → OnAccumulator e i (acc_changed e i next)
    on_accumulator k = record {
      reply_0 = rw acc-number (acc_0 (emac_admitted e) i);
      reply_2 = rw acc-number (acc_2 (emac_admitted e) i);
      reply_6 = rw acc-number (acc_6 (emac_admitted e) i);
      unchanged = acc-refused;
      kept = k;
    }

pub units : Units
unfolding accumulate_call set_macsr_call set_acc_call clear_acc_call
units = record {
  of_accumulate = λ e i scale sub x y. on_accumulator e _ i (λ h. accumulate_call-kept e h i scale sub x y);
  of_set_macsr = λ e v. on-unit e _ (λ h. set_macsr_call-kept e h v);
  of_set_acc = λ e i v. on_accumulator e _ i (λ h. set_acc_call-kept e h i v);
  of_clear_acc = λ e i. on_accumulator e _ i (λ h. clear_acc_call-kept e h i);
}
