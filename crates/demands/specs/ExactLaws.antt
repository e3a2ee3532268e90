-- Each reply is given exactly when the document says: what Exact states holds. Assumes nothing.
use Rattle.std.specs.Prelude.{ℕ, ◌≡◌, [], ◌∷◌, ◌↔◌, Some, None}
use Rattle.std.proofs.Common.{sym, ap}
use Rattle.std.proofs.lemmas.Bool.{false≢true}
use Rattle.manual.specs.declared.Cpu.{Cpu}
use Rattle.manual.specs.Admitted.{admitted}
use Rattle.manual.specs.Reply.{number_of}
use Rattle.manual.specs.Lent.{Lent, lent_on}
use Rattle.manual.specs.Exceptions.{mask_of}
use Rattle.instructions.specs.Run.{RunOutcome, run}
use Rattle.demands.specs.Steps.{Steps}
use Rattle.demands.specs.Runs.{runs}
use Rattle.demands.specs.ReplyLaws as laws
use Rattle.demands.specs.AccessLaws.{inside_is, outside-is}
use Rattle.demands.specs.FirstReplies.{usable-is, ready-is, first_1, first_2, first_of}
use Rattle.demands.specs.Exact.{Ready, Meanings, Reply0, Reply1, Reply2, Reply3, Reply4, Reply5, Reply6, Reply7, Reply8And9, NoOthers}
use Rattle.demands.specs.StepReplies.{of_step_0, of_vector, of_run_0, of_step_1, of_step_2, of_step_3, of_step_4, of_step_5, of_step, of_nop, of_bitrev, of_run_1, of_run_2, of_run_3, of_run_4, of_run_5, of_run}
use Rattle.demands.specs.EntryReplies.{of_exception_0, of_interrupt_0, of_rte_0, of_push_0, of_pop_0, of_exception_1, of_exception_2, of_exception_4, of_exception_6, of_exception, of_interrupt_1, of_interrupt_2, of_interrupt_4, of_interrupt_6, of_interrupt_7, of_interrupt, of_rte_1, of_rte_2, of_rte_4, of_rte, of_push_1, of_push_2, of_push_4, of_push, of_pop_1, of_pop_2, of_pop_4, of_pop}
use Rattle.demands.specs.CallReplies.{set_sr-number, told-number, not_2, zero_or_2, acc_2, acc_6, acc_of_lem, acc_get_number, acc_phys_number, acc_set_number, set_acc_phys_number, set_macsr-number, of_read_9, of_read_8, of_read_0, of_read_2, read_of, of_store_9, of_store_2, store_of, of_load_9, of_load_8, of_load_2, load_of}

pub meanings : Meanings
meanings = record { usable = usable-is; ready = ready-is; first_1 = first_1; first_2 = first_2; first_of = first_of; inside = inside_is; outside = outside-is }

-- a run is done exactly where its steps can be done one after the other
run-done : (budget : ℕ) (s : Cpu) (l : Lent) → (number_of (run budget s l).ran.reply ≡ 0) ↔ (Ready s l × ((s' : Cpu) × (l' : Lent) × Steps budget s l s' l'))
run-done budget s l = (
  λ e. let h : Ready s l × ((run budget s l).ran.count ≡ budget) = (of_run_0 budget s l).0 e in
      (h.0, ((run budget s l).ran.cpu, lent_on l (run budget s l).storage, rw h.1 at (runs.that_many budget s l))),
  λ h. ap (λ (r : RunOutcome). number_of r.ran.reply) (runs.does_them budget s h.1.0 l h.1.1 h.0 h.1.2),
)

pub reply_0 : Reply0
reply_0 = record {
  step_0 = of_step_0;
  step-vector = of_vector;
  run_0 = run-done;
  exception_0 = of_exception_0;
  interrupt_0 = of_interrupt_0;
  rte_0 = of_rte_0;
  push32_0 = of_push_0;
  pop32_0 = of_pop_0;
}

pub reply_1 : Reply1
reply_1 = record { step_1 = of_step_1; run_1 = of_run_1; exception_1 = of_exception_1; interrupt_1 = of_interrupt_1; rte_1 = of_rte_1; push32_1 = of_push_1; pop32_1 = of_pop_1 }

pub reply_2 : Reply2
reply_2 = record {
  step_2 = of_step_2;
  run_2 = of_run_2;
  exception_2 = of_exception_2;
  interrupt_2 = of_interrupt_2;
  rte_2 = of_rte_2;
  push32_2 = of_push_2;
  pop32_2 = of_pop_2;
  set_sr_2 = λ s v. rw (set_sr-number s v) (not_2 (admitted s));
  ipl_2 = λ s. rw (told-number s (mask_of s.sr)) (not_2 (admitted s));
  supervisor_2 = λ s. rw (told-number s _) (not_2 (admitted s));
  acc_get_2 = λ s i. rw (acc_get_number s i) (acc_2 (admitted s) i);
  acc_phys_2 = λ s i. rw (acc_phys_number s i) (acc_2 (admitted s) i);
  acc_set_2 = λ s i v. rw (acc_set_number s i v) (acc_2 (admitted s) i);
  set_acc_phys_2 = λ s i acc ext. rw (set_acc_phys_number s i acc ext) (acc_2 (admitted s) i);
  set_macsr_2 = λ s v. rw (set_macsr-number s v) (not_2 (admitted s));
}

pub reply_3 : Reply3
reply_3 = record { step_3 = of_step_3; run_3 = of_run_3 }

pub reply_4 : Reply4
reply_4 = record {
  exception_4 = of_exception_4;
  interrupt_4 = of_interrupt_4;
  rte_4 = of_rte_4;
  push32_4 = of_push_4;
  pop32_4 = of_pop_4;
  step_4 = of_step_4;
  run_4 = of_run_4;
  nop-fetched = of_nop;
  bitrev-fetched = of_bitrev;
}

pub reply_5 : Reply5
reply_5 = record { step_5 = of_step_5; run_5 = of_run_5 }

pub reply_6 : Reply6
reply_6 = record {
  exception_6 = λ s l vector pc level. laws.iff_trans (of_exception_6 s l vector pc (Some level)) (laws.iff_and laws.iff_same (laws.iff_not_lt level 8));
  exception_kept_6 = λ s l vector pc e. false≢true (sym ((of_exception_6 s l vector pc None).0 e).1);
  interrupt_6 = of_interrupt_6;
  acc_get_6 = λ s i. rw (acc_get_number s i) (acc_6 (admitted s) i);
  acc_phys_6 = λ s i. rw (acc_phys_number s i) (acc_6 (admitted s) i);
  acc_set_6 = λ s i v. rw (acc_set_number s i v) (acc_6 (admitted s) i);
  set_acc_phys_6 = λ s i acc ext. rw (set_acc_phys_number s i acc ext) (acc_6 (admitted s) i);
}

pub reply_7 : Reply7
reply_7 = record { interrupt_7 = of_interrupt_7 }

pub reply_8_and_9 : Reply8And9
reply_8_and_9 = record {
  read_block_9 = of_read_9;
  read_block_8 = of_read_8;
  read_block_0 = of_read_0;
  read_block_2 = of_read_2;
  store_block_9 = λ s b. of_store_9 b s;
  store_block_2 = λ s b. of_store_2 b s;
  load_image_9 = of_load_9;
  load_image_8 = of_load_8;
  load_image_2 = of_load_2;
}

pub no-others : NoOthers
no-others = record {
  step_of = of_step;
  run_of = of_run;
  exception_of = of_exception;
  interrupt_of = of_interrupt;
  rte_of = of_rte;
  push32_of = of_push;
  pop32_of = of_pop;
  set_sr_of = λ s v. laws.same_of (0 ∷ 2 ∷ []) (set_sr-number s v) (zero_or_2 (admitted s));
  ipl_of = λ s. laws.same_of (0 ∷ 2 ∷ []) (told-number s (mask_of s.sr)) (zero_or_2 (admitted s));
  supervisor_of = λ s. laws.same_of (0 ∷ 2 ∷ []) (told-number s _) (zero_or_2 (admitted s));
  acc_get_of = λ s i. laws.same_of (0 ∷ 2 ∷ 6 ∷ []) (acc_get_number s i) (acc_of_lem (admitted s) i);
  acc_phys_of = λ s i. laws.same_of (0 ∷ 2 ∷ 6 ∷ []) (acc_phys_number s i) (acc_of_lem (admitted s) i);
  acc_set_of = λ s i v. laws.same_of (0 ∷ 2 ∷ 6 ∷ []) (acc_set_number s i v) (acc_of_lem (admitted s) i);
  set_acc_phys_of = λ s i acc ext. laws.same_of (0 ∷ 2 ∷ 6 ∷ []) (set_acc_phys_number s i acc ext) (acc_of_lem (admitted s) i);
  set_macsr_of = λ s v. laws.same_of (0 ∷ 2 ∷ []) (set_macsr-number s v) (zero_or_2 (admitted s));
  read-block_of = read_of;
  store-block_of = λ s b. store_of b s;
  load_image_of = load_of;
}
