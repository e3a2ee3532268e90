-- What a call on a state block leaves where it is done. Document: "The host harness in Rust calls one step on a state block and a memory;
-- after 0 the block holds the new state, otherwise it is unchanged." And of a run: "it returns the count done, with the state and memory
-- after that many steps".
--
-- After reply 0 the block at exit is read, with 0, as the state of the call, and memory is the call's. After a run that did steps, whatever
-- its reply, the block is read as the state after that many steps, and memory is that after them. (Host has what is left otherwise: the
-- given bytes.) Assumes nothing.
use Rattle.std.specs.Prelude.{ℕ, ◌+◌, ◌*◌, ◌/◌, ◌<◌, ◌≡◌, Bool, cond, List, eqb, length, Option}
use Rattle.std.proofs.Math.Path.{refl, ap}
use Rattle.std.proofs.Common.{◌∙◌, inl, arith, ne_eqb}
use Rattle.std.proofs.Math.Bool.{true, false}
use Rattle.manual.specs.declared.Cpu.{Cpu}
use Rattle.manual.specs.declared.Reply.{Reply}
use Rattle.manual.specs.declared.Reply.TheVariants.{Done}
use Rattle.manual.specs.Reply.{number_of, is_done, Outcome}
use Rattle.manual.specs.Admitted.{admitted}
use Rattle.manual.specs.Lent.{Lent, lent_on}
use Rattle.manual.specs.Exceptions.{exception, interrupt, rte}
use Rattle.manual.specs.Block.{read_block, store_block}
use Rattle.instructions.specs.Step.{step}
use Rattle.instructions.specs.Run.{RunOutcome, run}
use Rattle.instructions.specs.HostCalls.{Called, called, block_reply, block_refused, block_after, on_block, exception_on, interrupt_on, rte_on, step_on, run_on}
use Rattle.block.specs.Typed.{Typed}
use Rattle.block.specs.ReadBack.{read_back}
use Rattle.demands.specs.Steps.{Steps}
use Rattle.demands.specs.Refusals.{is-done, done-is, is-refused}
use Rattle.demands.specs.Runs.{runs}
use Rattle.demands.specs.TypedLaws.{keeps_typed}
use Rattle.demands.specs.Admits.{admits}
use Rattle.demands.specs.Exact.{Bytes, numbered}
use Rattle.demands.specs.ExactLaws as exact
use Rattle.demands.specs.Host.{reply_in, host_replies, host_refusals, number_small}

-- the read of a block is done, and gives this state
abbrev pub Holds : List ℕ → Cpu → Type 0
Holds b s = read_block b ≡ record { reply = Done; cpu = s }

-- a call on the block b was done: s is the state that the block held, o the outcome of the call on it, and c is what was left
pub record DoneOn (b : List ℕ) (s : Cpu) (o : Outcome) (c : Called) : Type 0 where
  pub held : Holds b s
  pub done : o.stepped.reply ≡ Done
  -- the block holds the call's state now, and memory is the call's
  pub holds : Holds c.block o.stepped.cpu
  pub memory : c.storage ≡ o.storage

-- a run on the block b did steps: s is the state that the block held, and c is what was left
pub record RanOn (b : List ℕ) (l : Lent) (s : Cpu) (c : Called) : Type 0 where
  pub held : Holds b s
  -- as many steps as the answer says, all of them done, lead to a state and to memory at exit
  pub after : Cpu
  pub that_many : Steps (c.answer / 256) s l after (lent_on l c.storage)
  -- and the block holds that state now
  pub holds : Holds c.block after

-- the numbers of the block and of memory are bytes, as their types say
pub record HostSentences : Type 0 where
  -- the answer of a step is its vector, above the reply
  pub after-step : (b : List ℕ) (l : Lent) → Bytes b → Bytes l.storage → reply_in (step_on b l) ≡ 0
      → let s : Cpu = (read_block b).cpu in
      DoneOn b s (step s l) (step_on b l) × ((step_on b l).answer / 256 ≡ (step s l).stepped.vector)
  pub after-exception : (b : List ℕ) (l : Lent) (vector pc : ℕ) (level : Option ℕ) → Bytes b → Bytes l.storage
      → reply_in (exception_on b l vector pc level) ≡ 0
      → let s : Cpu = (read_block b).cpu in
      DoneOn b s (exception s l vector pc level) (exception_on b l vector pc level)
  pub after-interrupt : (b : List ℕ) (l : Lent) (vector level : ℕ) → Bytes b → Bytes l.storage → reply_in (interrupt_on b l vector level) ≡ 0
      → let s : Cpu = (read_block b).cpu in
      DoneOn b s (interrupt s l vector level) (interrupt_on b l vector level)
  pub after-rte : (b : List ℕ) (l : Lent) → Bytes b → Bytes l.storage → reply_in (rte_on b l) ≡ 0
      → let s : Cpu = (read_block b).cpu in
      DoneOn b s (rte s l) (rte_on b l)
  -- a run, whatever its reply: it did steps; or none; or the block was refused
  pub after_run : (b : List ℕ) (l : Lent) (budget : ℕ) → Bytes b → Bytes l.storage → 0 < (run_on b l budget).answer / 256
      → RanOn b l (read_block b).cpu (run_on b l budget)
  pub after_none : (b : List ℕ) (l : Lent) (budget : ℕ) → (run_on b l budget).answer / 256 ≡ 0
      → ((run_on b l budget).block ≡ b) × ((run_on b l budget).storage ≡ l.storage)
  pub after-refused : (b : List ℕ) (l : Lent) (budget : ℕ) → ((read_block b).reply ≡ Done → ⊥)
      → ((run_on b l budget).block ≡ b) × ((run_on b l budget).storage ≡ l.storage) × ((run_on b l budget).answer / 256 ≡ 0)

-- ---- the proofs

-- ---- a block that was read, and is stored in

pub stored_back : (s : Cpu) (b : List ℕ) → admitted s ≡ true → Typed s → length b ≡ 128 → ((store_block s b).reply ≡ Done) × Holds (store_block s b).bytes s
unfolding store_block
stored_back s b h typed long = rw (long, h) (refl, read_back s h typed)

module _ (b : List ℕ) (e : number_of (read_block b).reply ≡ 0) where
  was_done : (read_block b).reply ≡ Done
  was_done = done-is (read_block b).reply e

  pub was_held : Holds b (read_block b).cpu
  was_held = ap (λ (x : Reply). record { reply = x; cpu = (read_block b).cpu }) was_done

  now-holds : (s : Cpu) → admitted s ≡ true → Typed s → Holds (store_block s b).bytes s
  now-holds s h typed = (stored_back s b h typed (((exact.reply_8_and_9).read_block_0 b).0 e).0.0).1

  module _ (w : ℕ) (l : Lent) (o : Outcome) (d : numbered o ≡ 0) where
    -- what is left, all the tests being passed
    left : on_block w (read_block b) o b l ≡ called (numbered o + w * o.stepped.vector) (store_block o.stepped.cpu b).bytes o.storage
    unfolding on_block block_after
    left = rw (was_done, done-is o.stepped.reply d)

    done_on : admitted o.stepped.cpu ≡ true → Typed o.stepped.cpu → DoneOn b (read_block b).cpu o (on_block w (read_block b) o b l)
    done_on h typed = record {
      held = was_held;
      done = done-is o.stepped.reply d;
      holds = rw left (now-holds o.stepped.cpu h typed);
      memory = ap (λ (c : Called). c.storage) left;
    }

-- ---- the calls

module _ (b : List ℕ) (l : Lent) (bytes : Bytes b) (all : Bytes l.storage) where
  abbrev s : Cpu
  s = (read_block b).cpu

  s-admitted : admitted s ≡ true
  s-admitted = admits.by-read_block b

  after-step : reply_in (step_on b l) ≡ 0 → DoneOn b s (step s l) (step_on b l) × ((step_on b l).answer / 256 ≡ (step s l).stepped.vector)
  unfolding step_on
  after-step e =
      let g : (number_of (read_block b).reply ≡ 0) × (numbered (step s l) ≡ 0) = ((host_replies.of_step b l).gives 0 (inl refl)).0 e in (
        done_on b g.0 256 l (step s l) g.1 (admits.by-step s l s-admitted) (keeps_typed.by-step s l (keeps_typed.by-read_block b bytes) all),
        ap (λ (c : Called). c.answer / 256) (left b g.0 256 l (step s l) g.1) ∙ omega (arith, g.1),
      )

  after-exception : (vector pc : ℕ) (level : Option ℕ) → reply_in (exception_on b l vector pc level) ≡ 0
      → DoneOn b s (exception s l vector pc level) (exception_on b l vector pc level)
  unfolding exception_on
  after-exception vector pc level e =
      let g : (number_of (read_block b).reply ≡ 0) × (numbered (exception s l vector pc level) ≡ 0) = ((host_replies.of_exception b l vector pc level).gives 0 (inl refl)).0 e in
      done_on b g.0 0 l (exception s l vector pc level) g.1 (admits.by-exception s l vector pc level s-admitted)
      (keeps_typed.by-exception s l vector pc level (keeps_typed.by-read_block b bytes) all)

  after-interrupt : (vector level : ℕ) → reply_in (interrupt_on b l vector level) ≡ 0 → DoneOn b s (interrupt s l vector level) (interrupt_on b l vector level)
  unfolding interrupt_on
  after-interrupt vector level e =
      let g : (number_of (read_block b).reply ≡ 0) × (numbered (interrupt s l vector level) ≡ 0) = ((host_replies.of_interrupt b l vector level).gives 0 (inl refl)).0 e in
      done_on b g.0 0 l (interrupt s l vector level) g.1 (admits.by-interrupt s l vector level s-admitted)
      (keeps_typed.by-interrupt s l vector level (keeps_typed.by-read_block b bytes) all)

  after-rte : reply_in (rte_on b l) ≡ 0 → DoneOn b s (rte s l) (rte_on b l)
  unfolding rte_on
  after-rte e =
      let g : (number_of (read_block b).reply ≡ 0) × (numbered (rte s l) ≡ 0) = ((host_replies.of_rte b l).gives 0 (inl refl)).0 e in
      done_on b g.0 0 l (rte s l) g.1 (admits.by-rte s l s-admitted) (keeps_typed.by-rte s l (keeps_typed.by-read_block b bytes) all)

-- ---- a run

module _ (b : List ℕ) (l : Lent) (budget : ℕ) where
  abbrev o : RunOutcome
  o = run budget (read_block b).cpu l

  abbrev done : Called
  done = called (number_of o.ran.reply + 256 * o.ran.count) (cond (eqb o.ran.count 0) b (store_block o.ran.cpu b).bytes) o.storage

  counted : done.answer / 256 ≡ o.ran.count
  counted = omega (arith, number_small o.ran.reply)

  refused-few : (block_refused (read_block b) b l).answer / 256 ≡ 0
  refused-few = omega (arith, number_small (block_reply (read_block b).reply l))

  after_run : Bytes b → Bytes l.storage → 0 < (run_on b l budget).answer / 256 → RanOn b l (read_block b).cpu (run_on b l budget)
  unfolding run_on
  after_run bytes all = by (is_done (read_block b).reply) refl
    where
      by : (t : Bool) → is_done (read_block b).reply ≡ t → 0 < (cond t done (block_refused (read_block b) b l)).answer / 256
          → RanOn b l (read_block b).cpu (cond t done (block_refused (read_block b) b l))
      by true e h =
          let z : number_of (read_block b).reply ≡ 0 = ap number_of (is-done (read_block b).reply e) in
          record {
            held = was_held b z;
            after = o.ran.cpu;
            that_many = rw counted (runs.that_many budget (read_block b).cpu l);
            holds = rw (ne_eqb o.ran.count 0 (λ k. omega (arith, counted)))
                (now-holds b z o.ran.cpu (admits.by-run budget (read_block b).cpu l (admits.by-read_block b))
                (keeps_typed.by-run budget (read_block b).cpu l (keeps_typed.by-read_block b bytes) all));
          }
      by false e h = absurd (omega (arith, refused-few))

  after-refused : ((read_block b).reply ≡ Done → ⊥)
      → ((run_on b l budget).block ≡ b) × ((run_on b l budget).storage ≡ l.storage) × ((run_on b l budget).answer / 256 ≡ 0)
  unfolding run_on
  after-refused n = rw (is-refused (read_block b).reply (λ e. n (done-is (read_block b).reply e))) (refl, refl, refused-few)

pub host_sentences : HostSentences
host_sentences = record {
  after-step = after-step;
  after-exception = λ b l vector pc level bytes all. after-exception b l bytes all vector pc level;
  after-interrupt = λ b l vector level bytes all. after-interrupt b l bytes all vector level;
  after-rte = after-rte;
  after_run = after_run;
  after_none = host_refusals.of_run;
  after-refused = after-refused;
}
