-- The calls on a state block. Document: "The host harness", and "Numbered replies".
--
-- The step's replies as one table, by the bytes of the block. Then every call: which reply is given exactly when, in the document's
-- order. 9 and 8 are told by the block alone, then 1 by the memory, then 2 by the block; every other is the reply of the call on the
-- state that the block holds. And a refused call leaves the block and memory as given, and answers the reply alone. A run that did no
-- step leaves them too. Assumes nothing.
use Rattle.std.specs.Prelude.{ℕ, ◌+◌, ◌*◌, ◌/◌, ◌%◌, ◌≤◌, ◌<◌, ◌≡◌, Bool, ◌&&◌, ◌↔◌, ◌⊎◌, ltb, length, Option}
use Rattle.std.proofs.Math.Path.{refl, ap}
use Rattle.std.proofs.Common.{sym, ◌∙◌, ⊎_elim, inl, inr, eq-eqb}
use Rattle.std.proofs.Math.Bool.{true, false, cond}
use Rattle.std.proofs.lemmas.Bool.{false≢true}
use mathlib.Core.List.{List, [], ◌∷◌}
use native.Mathlib.Omega.{arith}
use Rattle.std.proofs.Math.Dec.{eqb}
use Rattle.manual.specs.declared.Cpu.{Cpu}
use Rattle.manual.specs.declared.Reply.{Reply}
use Rattle.manual.specs.declared.Reply.TheVariants.{Done, TooLong as Long, NotAdmitted, Stopped, NotInside, NotCarried, OutOfRange, Masked, WrongVersion, WrongLength}
use Rattle.manual.specs.declared.Answer.{Answer}
use Rattle.manual.specs.Reply.{number_of, is_done, Outcome}
use Rattle.manual.specs.Memory.{Storage, Memory, value_at}
use Rattle.manual.specs.Admitted.{admitted}
use Rattle.manual.specs.Lent.{Lent, memory_of, lent_refusal, or_else}
use Rattle.manual.specs.Exceptions.{exception, interrupt, rte}
use Rattle.manual.specs.Block.{state_at, says_admitted, not_read, read_block, store_block}
use Rattle.instructions.specs.Step.{step}
use Rattle.instructions.specs.Run.{RunOutcome, run}
use Rattle.instructions.specs.HostCalls.{Called, called, block_reply, block_refused, block_after, on_block, exception_on, interrupt_on, rte_on, step_on, run_on}
use Rattle.word.specs.TestLaws.{by-lt}
use Rattle.demands.specs.Refusals.{NotZero, Unchanged, is-refused, refusals}
use Rattle.demands.specs.Steps.{Steps, none, one_more}
use Rattle.demands.specs.Runs.{runs}
use Rattle.demands.specs.Admits.{admits}
use Rattle.demands.specs.ReplyLaws as laws
use Rattle.demands.specs.Exact.{OneOf, TooLong, Usable, Ready, BlockForm, OutOfRanges, last-above, numbered}
use Rattle.demands.specs.Accesses.{SomeOutside}
use Rattle.demands.specs.Effects.{accesses}
use Rattle.demands.specs.BlockRanges.{of_block, in_ranges}
use Rattle.demands.specs.FirstReplies.{lent_1, lent_2, lent_of}
use Rattle.demands.specs.ExactLaws as exact

-- the reply's number of an answer: a vector or a count stands above it
abbrev pub reply_in : Called → ℕ
reply_in c = c.answer % 256

-- the block has the right form, memory is not too long, and the block's numbers are in their ranges: the step begins
abbrev pub Begins : List ℕ → Lent → Type 0
Begins b l = BlockForm b × ((TooLong l → ⊥) × (OutOfRanges b → ⊥))

-- when `harness::step` gives which reply, in the document's order, by the bytes of the block b and of memory
pub record StepTable (b : List ℕ) (l : Lent) : Type 0 where
  -- under five bytes; or the first is 1, but they are not 128 or the next four do not say 123
  pub gives_9 : (reply_in (step_on b l) ≡ 9) ↔ ((length b < 5) ⊎ ((5 ≤ length b) × ((value_at b 0 1 ≡ 1) × ((length b ≡ 128) × (value_at b 1 4 ≡ 123) → ⊥))))
  -- the first byte is not 1
  pub gives_8 : (reply_in (step_on b l) ≡ 8) ↔ ((5 ≤ length b) × (value_at b 0 1 ≡ 1 → ⊥))
  -- memory is too long
  pub gives_1 : (reply_in (step_on b l) ≡ 1) ↔ (BlockForm b × TooLong l)
  -- a number of the block is out of its range
  pub gives_2 : (reply_in (step_on b l) ≡ 2) ↔ (BlockForm b × ((TooLong l → ⊥) × OutOfRanges b))
  -- the last byte says that the state is stopped
  pub gives_3 : (reply_in (step_on b l) ≡ 3) ↔ (Begins b l × (value_at b 127 1 ≡ 1))
  -- some access of the step of the state that the block says is not inside
  pub gives_4 : let m : Memory = memory_of l in
      (reply_in (step_on b l) ≡ 4) ↔ (Begins b l × ((value_at b 127 1 ≡ 0) × SomeOutside m (accesses (state_at b) m)))
  -- no word brings it
  pub gives_5 : reply_in (step_on b l) ≡ 5 → ⊥
  -- none of these
  pub gives_0 : let m : Memory = memory_of l in
      (reply_in (step_on b l) ≡ 0) ↔ (Begins b l × ((value_at b 127 1 ≡ 0) × (SomeOutside m (accesses (state_at b) m) → ⊥)))
  pub no_other : OneOf (0 ∷ 1 ∷ 2 ∷ 3 ∷ 4 ∷ 8 ∷ 9 ∷ []) (reply_in (step_on b l))

-- when a call on a block gives which reply; `read` is the reply to the block's own read, `inner` that of the call on its state
pub record OnBlock (read : ℕ) (l : Lent) (reply inner : ℕ) : Type 0 where
  pub gives_9 : (reply ≡ 9) ↔ (read ≡ 9)
  pub gives_8 : (reply ≡ 8) ↔ (read ≡ 8)
  pub gives_1 : (reply ≡ 1) ↔ (((read ≡ 0) ⊎ (read ≡ 2)) × TooLong l)
  pub gives_2 : (reply ≡ 2) ↔ ((read ≡ 2) × Usable l)
  pub gives : (k : ℕ) → (k ≡ 0) ⊎ ((3 ≤ k) × (k ≤ 7)) → (reply ≡ k) ↔ ((read ≡ 0) × (inner ≡ k))

pub record HostReplies : Type 0 where
  pub of_step : (b : List ℕ) (l : Lent) → OnBlock (number_of (read_block b).reply) l (reply_in (step_on b l)) (numbered (step (read_block b).cpu l))
  pub of_exception : (b : List ℕ) (l : Lent) (vector pc : ℕ) (level : Option ℕ)
      → OnBlock (number_of (read_block b).reply) l (reply_in (exception_on b l vector pc level)) (numbered (exception (read_block b).cpu l vector pc level))
  pub of_interrupt : (b : List ℕ) (l : Lent) (vector level : ℕ)
      → OnBlock (number_of (read_block b).reply) l (reply_in (interrupt_on b l vector level)) (numbered (interrupt (read_block b).cpu l vector level))
  pub of_rte : (b : List ℕ) (l : Lent) → OnBlock (number_of (read_block b).reply) l (reply_in (rte_on b l)) (numbered (rte (read_block b).cpu l))
  pub of_run : (b : List ℕ) (l : Lent) (budget : ℕ)
      → OnBlock (number_of (read_block b).reply) l (reply_in (run_on b l budget)) (number_of (run budget (read_block b).cpu l).ran.reply)

-- if the reply is not 0, block and storage are as given, and nothing stands above the reply
abbrev pub HostUnchanged : List ℕ → Storage → Called → Type 0
HostUnchanged b m c = (reply_in c ≡ 0 → ⊥) → ((c.block ≡ b) × (c.storage ≡ m)) × (c.answer < 256)

pub record HostRefusals : Type 0 where
  pub of_step : (b : List ℕ) (l : Lent) → HostUnchanged b l.storage (step_on b l)
  pub of_exception : (b : List ℕ) (l : Lent) (vector pc : ℕ) (level : Option ℕ) → HostUnchanged b l.storage (exception_on b l vector pc level)
  pub of_interrupt : (b : List ℕ) (l : Lent) (vector level : ℕ) → HostUnchanged b l.storage (interrupt_on b l vector level)
  pub of_rte : (b : List ℕ) (l : Lent) → HostUnchanged b l.storage (rte_on b l)
  -- the count of a run is its answer without the reply
  pub of_run : (b : List ℕ) (l : Lent) (budget : ℕ) → (run_on b l budget).answer / 256 ≡ 0 → ((run_on b l budget).block ≡ b) × ((run_on b l budget).storage ≡ l.storage)

-- ---- which reply

-- the number that an answer says, n being the inner call's
abbrev saying : Reply → Lent → ℕ → ℕ
saying r l n = cond (is_done r) n (number_of (block_reply r l))

-- a number that a read of a block does not give
no : (n : ℕ) → OneOf (0 ∷ 2 ∷ 8 ∷ 9 ∷ []) n → (n ≡ 1) ⊎ ((3 ≤ n) × (n ≤ 7)) → ⊥
no n w (inl h) = ⊎_elim (λ e. omega arith) (⊎_elim (λ e. omega arith) (⊎_elim (λ e. omega arith) (⊎_elim (λ e. omega arith) (λ x. x)))) w
no n w (inr h) = ⊎_elim (λ e. omega arith) (⊎_elim (λ e. omega arith) (⊎_elim (λ e. omega arith) (⊎_elim (λ e. omega arith) (λ x. x)))) w

module _ (l : Lent) (inner : ℕ) (few : inner ≤ 7) (one : (inner ≡ 1) ↔ TooLong l) where
  -- the block says a state that is not admitted
  abbrev refused : ℕ
  refused = number_of (or_else (lent_refusal l) NotAdmitted)

  not-admitted : OnBlock 2 l refused inner
  not-admitted = record {
    gives_9 = (λ h. absurd (no_other 9 (inr (omega arith)) h), λ h. absurd (omega arith));
    gives_8 = (λ h. absurd (no_other 8 (inr (omega arith)) h), λ h. absurd (omega arith));
    gives_1 = (λ h. (inr refl, (lent_1 l).0 h), λ h. (lent_1 l).1 h.1);
    gives_2 = (λ h. (refl, (lent_2 l).0 h), λ h. (lent_2 l).1 h.1);
    gives = λ k w. (λ h. absurd (no_other k (⊎_elim (λ e. inl e) (λ e. inr e.0) w) h), λ h. absurd (omega (arith, h.0)));
  }
    where
      no_other : (k : ℕ) → (k ≡ 0) ⊎ (3 ≤ k) → refused ≡ k → ⊥
      no_other k w e = by (lent_of l) w
        where
          by : OneOf (1 ∷ 2 ∷ []) refused → (k ≡ 0) ⊎ (3 ≤ k) → ⊥
          by (inl x) (inl z) = omega (arith, x, e, z)
          by (inl x) (inr z) = omega (arith, x, e, z)
          by (inr (inl x)) (inl z) = omega (arith, x, e, z)
          by (inr (inl x)) (inr z) = omega (arith, x, e, z)
          by (inr (inr never)) w = elim never [ ]

  -- the block is none: n is 8 or 9
  not-block : (n : ℕ) → 8 ≤ n → OnBlock n l n inner
  not-block n low = record {
    gives_9 = laws.iff_same;
    gives_8 = laws.iff_same;
    gives_1 = (λ h. absurd (omega arith), λ h. absurd (⊎_elim (λ e. omega arith) (λ e. omega arith) h.0));
    gives_2 = (λ h. absurd (omega arith), λ h. absurd (omega (arith, h.0)));
    gives = λ k w. (λ h. absurd (⊎_elim (λ e. omega arith) (λ e. omega arith) w), λ h. absurd (omega (arith, h.0)));
  }

  -- the block holds a state, and the call goes on
  held : (inner ≡ 2 → ⊥) → OnBlock 0 l inner inner
  held two = record {
    gives_9 = (λ h. absurd (omega arith), λ h. absurd (omega arith));
    gives_8 = (λ h. absurd (omega arith), λ h. absurd (omega arith));
    gives_1 = (λ h. (inl refl, one.0 h), λ h. one.1 h.1);
    gives_2 = (λ h. absurd (two h), λ h. absurd (omega (arith, h.0)));
    gives = λ k w. (λ h. (refl, h), λ h. h.1);
  }

  on-block : (r : Reply) → OneOf (0 ∷ 2 ∷ 8 ∷ 9 ∷ []) (number_of r) → (inner ≡ 2 → ⊥) → OnBlock (number_of r) l (saying r l inner) inner
  unfolding block_reply
  on-block Done w two = held two
  on-block Long w two = absurd (no 1 w (inl refl))
  on-block NotAdmitted w two = not-admitted
  on-block Stopped w two = absurd (no 3 w (inr (omega arith, omega arith)))
  on-block NotInside w two = absurd (no 4 w (inr (omega arith, omega arith)))
  on-block NotCarried w two = absurd (no 5 w (inr (omega arith, omega arith)))
  on-block OutOfRange w two = absurd (no 6 w (inr (omega arith, omega arith)))
  on-block Masked w two = absurd (no 7 w (inr (omega arith, omega arith)))
  on-block WrongVersion w two = not-block 8 (omega arith)
  on-block WrongLength w two = not-block 9 (omega arith)

-- ---- the answers

pub number_small : (n : Reply) → number_of n ≤ 9
number_small Done = omega arith
number_small Long = omega arith
number_small NotAdmitted = omega arith
number_small Stopped = omega arith
number_small NotInside = omega arith
number_small NotCarried = omega arith
number_small OutOfRange = omega arith
number_small Masked = omega arith
number_small WrongVersion = omega arith
number_small WrongLength = omega arith

-- the vector counts w times: 256, or 0
module _ (w : ℕ) (low : (n v : ℕ) → n ≤ 9 → (n + w * v) % 256 ≡ n) (alone : (n : ℕ) → n ≤ 9 → n + w * 0 < 256) (o : Outcome) (b : List ℕ) (l : Lent) where
  block-number : (r : Answer) → reply_in (on_block w r o b l) ≡ saying r.reply l (numbered o)
  unfolding on_block
  block-number r = by (is_done r.reply)
    where
      by : (d : Bool)
          → reply_in (cond d (called (number_of o.stepped.reply + w * o.stepped.vector) (block_after o.stepped.reply o.stepped.cpu b) o.storage) (block_refused r b l))
          ≡ cond d (numbered o) (number_of (block_reply r.reply l))
      by true = low _ _ (number_small o.stepped.reply)
      by false = omega (arith, number_small (block_reply r.reply l))

  block-kept : (r : Answer) → Unchanged r.cpu l.storage o → HostUnchanged b l.storage (on_block w r o b l)
  unfolding on_block block_after
  block-kept r kept = by (is_done r.reply)
    where
      by : (d : Bool)
          → HostUnchanged b l.storage (cond d (called (number_of o.stepped.reply + w * o.stepped.vector) (cond (is_done o.stepped.reply) (store_block o.stepped.cpu b).bytes b) o.storage) (block_refused r b l))
      by true h =
          let n : NotZero o.stepped.reply = λ e. h (low _ _ (number_small o.stepped.reply) ∙ e) in
          let k : ((o.stepped.cpu ≡ r.cpu) × (o.storage ≡ l.storage)) × (o.stepped.vector ≡ 0) = kept n in
          ((rw (is-refused o.stepped.reply n), k.0.1), rw k.1 (alone _ (number_small o.stepped.reply)))
      by false h = ((refl, refl), omega (arith, number_small (block_reply r.reply l)))

low_256 : (n v : ℕ) → n ≤ 9 → (n + 256 * v) % 256 ≡ n
low_256 n v h = omega arith

low_0 : (n v : ℕ) → n ≤ 9 → (n + 0 * v) % 256 ≡ n
low_0 n v h = omega arith

alone_256 : (n : ℕ) → n ≤ 9 → n + 256 * 0 < 256
alone_256 n h = omega arith

alone_0 : (n : ℕ) → n ≤ 9 → n + 0 * 0 < 256
alone_0 n h = omega arith

-- the state of a block is admitted, so no call on it gives 2
module _ (b : List ℕ) where
  abbrev read : Answer
  read = read_block b

  never_2 : {X Y : Type 0} → (X ↔ (Y × (admitted read.cpu ≡ false))) → X → ⊥
  never_2 e x = false≢true (sym (e.0 x).1 ∙ admits.by-read_block b)

module _ (b : List ℕ) (l : Lent) where
  -- a call that answers with an outcome
  replies : (w : ℕ) (low : (n v : ℕ) → n ≤ 9 → (n + w * v) % 256 ≡ n) (alone : (n : ℕ) → n ≤ 9 → n + w * 0 < 256) (o : Outcome) (ks : List ℕ) → laws.all_to 7 ks ≡ true → OneOf ks (numbered o)
      → ((numbered o ≡ 1) ↔ TooLong l) → ((numbered o ≡ 2) ↔ (Usable l × (admitted (read_block b).cpu ≡ false)))
      → OnBlock (number_of (read_block b).reply) l (reply_in (on_block w (read_block b) o b l)) (numbered o)
  replies w low alone o ks a of one two =
      rw (block-number w low alone o b l (read_block b))
      (on-block l (numbered o) (laws.at_most 7 (numbered o) ks a of) one (read_block b).reply ((exact.no-others).read-block_of b) (never_2 b two))

  step-replies : OnBlock (number_of (read_block b).reply) l (reply_in (step_on b l)) (numbered (step (read_block b).cpu l))
  unfolding step_on
  step-replies =
      let s : Cpu = (read_block b).cpu in
      replies 256 low_256 alone_256 (step s l) (0 ∷ 1 ∷ 2 ∷ 3 ∷ 4 ∷ []) refl ((exact.no-others).step_of s l)
      ((exact.reply_1).step_1 s l) ((exact.reply_2).step_2 s l)

  exception-replies : (vector pc : ℕ) (level : Option ℕ)
      → OnBlock (number_of (read_block b).reply) l (reply_in (exception_on b l vector pc level)) (numbered (exception (read_block b).cpu l vector pc level))
  unfolding exception_on
  exception-replies vector pc level =
      let s : Cpu = (read_block b).cpu in
      replies 0 low_0 alone_0 (exception s l vector pc level) (0 ∷ 1 ∷ 2 ∷ 4 ∷ 6 ∷ []) refl ((exact.no-others).exception_of s l vector pc level)
      ((exact.reply_1).exception_1 s l vector pc level) ((exact.reply_2).exception_2 s l vector pc level)

  interrupt-replies : (vector level : ℕ)
      → OnBlock (number_of (read_block b).reply) l (reply_in (interrupt_on b l vector level)) (numbered (interrupt (read_block b).cpu l vector level))
  unfolding interrupt_on
  interrupt-replies vector level =
      let s : Cpu = (read_block b).cpu in
      replies 0 low_0 alone_0 (interrupt s l vector level) (0 ∷ 1 ∷ 2 ∷ 4 ∷ 6 ∷ 7 ∷ []) refl ((exact.no-others).interrupt_of s l vector level)
      ((exact.reply_1).interrupt_1 s l vector level) ((exact.reply_2).interrupt_2 s l vector level)

  rte-replies : OnBlock (number_of (read_block b).reply) l (reply_in (rte_on b l)) (numbered (rte (read_block b).cpu l))
  unfolding rte_on
  rte-replies =
      let s : Cpu = (read_block b).cpu in
      replies 0 low_0 alone_0 (rte s l) (0 ∷ 1 ∷ 2 ∷ 4 ∷ []) refl ((exact.no-others).rte_of s l) ((exact.reply_1).rte_1 s l) ((exact.reply_2).rte_2 s l)

  -- ---- a run

  module _ (budget : ℕ) where
    abbrev ran : RunOutcome
    ran = run budget (read_block b).cpu l

    run-number : reply_in (run_on b l budget) ≡ saying (read_block b).reply l (number_of ran.ran.reply)
    unfolding run_on
    run-number = by (is_done (read_block b).reply) (cond (eqb ran.ran.count 0) b (store_block ran.ran.cpu b).bytes)
      where
        by : (d : Bool) (x : List ℕ)
            → reply_in (cond d (called (number_of ran.ran.reply + 256 * ran.ran.count) x ran.storage) (block_refused (read_block b) b l))
            ≡ cond d (number_of ran.ran.reply) (number_of (block_reply (read_block b).reply l))
        by true x = low_256 _ _ (number_small ran.ran.reply)
        by false x = omega (arith, number_small (block_reply (read_block b).reply l))

    run-replies : OnBlock (number_of (read_block b).reply) l (reply_in (run_on b l budget)) (number_of ran.ran.reply)
    run-replies =
        let s : Cpu = (read_block b).cpu in
        let n : ℕ = number_of ran.ran.reply in
        rw run-number
        (on-block l n (laws.at_most 7 n (0 ∷ 1 ∷ 2 ∷ 3 ∷ 4 ∷ []) refl ((exact.no-others).run_of budget s l))
        ((exact.reply_1).run_1 budget s l) (read_block b).reply ((exact.no-others).read-block_of b) (never_2 b ((exact.reply_2).run_2 budget s l)))

    no_steps : {n : ℕ} {s s' : Cpu} {l l' : Lent} → Steps n s l s' l' → n ≡ 0 → l' ≡ l
    no_steps none e = refl
    no_steps (one_more d h) e = absurd (omega arith)

    run-kept : (run_on b l budget).answer / 256 ≡ 0 → ((run_on b l budget).block ≡ b) × ((run_on b l budget).storage ≡ l.storage)
    unfolding run_on
    run-kept = by (is_done (read_block b).reply)
      where
        by : (d : Bool)
            → let c : Called = cond d (called (number_of ran.ran.reply + 256 * ran.ran.count) (cond (eqb ran.ran.count 0) b (store_block ran.ran.cpu b).bytes) ran.storage) (block_refused (read_block b) b l) in
            c.answer / 256 ≡ 0 → (c.block ≡ b) × (c.storage ≡ l.storage)
        by true h =
            let z : ran.ran.count ≡ 0 = omega (arith, number_small ran.ran.reply) in
            (rw (eq-eqb _ _ z), ap (λ (x : Lent). x.storage) (no_steps (runs.that_many budget (read_block b).cpu l) z))
        by false h = (refl, refl)

-- ---- all of them

pub host_replies : HostReplies
host_replies = record { of_step = step-replies; of_exception = exception-replies; of_interrupt = interrupt-replies; of_rte = rte-replies; of_run = run-replies }

step_kept : (b : List ℕ) (l : Lent) → HostUnchanged b l.storage (step_on b l)
unfolding step_on
step_kept b l = block-kept 256 low_256 alone_256 _ b l (read_block b) (refusals.of_step _ l)

exception-kept : (b : List ℕ) (l : Lent) (vector pc : ℕ) (level : Option ℕ) → HostUnchanged b l.storage (exception_on b l vector pc level)
unfolding exception_on
exception-kept b l vector pc level = block-kept 0 low_0 alone_0 _ b l (read_block b) (refusals.of_exception _ l vector pc level)

interrupt-kept : (b : List ℕ) (l : Lent) (vector level : ℕ) → HostUnchanged b l.storage (interrupt_on b l vector level)
unfolding interrupt_on
interrupt-kept b l vector level = block-kept 0 low_0 alone_0 _ b l (read_block b) (refusals.of_interrupt _ l vector level)

rte-kept : (b : List ℕ) (l : Lent) → HostUnchanged b l.storage (rte_on b l)
unfolding rte_on
rte-kept b l = block-kept 0 low_0 alone_0 _ b l (read_block b) (refusals.of_rte _ l)

pub host_refusals : HostRefusals
host_refusals = record { of_step = step_kept; of_exception = exception-kept; of_interrupt = interrupt-kept; of_rte = rte-kept; of_run = run-kept }

-- ---- the table of a step

module _ (b : List ℕ) where
  abbrev replied : ℕ
  replied = number_of (read_block b).reply

  -- a block that is read holds the state that its bytes say
  pub says : replied ≡ 0 → (read_block b).cpu ≡ state_at b
  unfolding read_block
  says = by (ltb (length b) 5) (eqb (value_at b 0 1) 1) (eqb (length b) 128 && eqb (value_at b 1 4) 123) (says_admitted b)
    where
      by : (x y z w : Bool)
          → let r : Answer = cond x (not_read WrongLength) (cond y (cond z (cond w (record { reply = Done; cpu = state_at b }) (not_read NotAdmitted)) (not_read WrongLength)) (not_read WrongVersion)) in
          number_of r.reply ≡ 0 → r.cpu ≡ state_at b
      by true y z w e = absurd (omega arith)
      by false true true true e = refl
      by false true true false e = absurd (omega arith)
      by false true false w e = absurd (omega arith)
      by false false z w e = absurd (omega arith)

  -- it has the right form, whether its numbers are in their ranges or not
  formed : ((replied ≡ 0) ⊎ (replied ≡ 2)) ↔ BlockForm b
  formed = (
    ⊎_elim (λ h. (((exact.reply_8_and_9).read_block_0 b).0 h).0) (λ h. (((exact.reply_8_and_9).read_block_2 b).0 h).0),
    λ h. by (says_admitted b) (of_block b) (in_ranges b) h,
  )
    where
      by : (t : Bool) → ((t ≡ false) ↔ OutOfRanges b) → ((t ≡ true) ↔ (OutOfRanges b → ⊥)) → BlockForm b → (replied ≡ 0) ⊎ (replied ≡ 2)
      by true p q h = inl (((exact.reply_8_and_9).read_block_0 b).1 (h, q.0 refl))
      by false p q h = inr (((exact.reply_8_and_9).read_block_2 b).1 (h, p.0 refl))

  stopped_is : ((state_at b).stopped ≡ true) ↔ (value_at b 127 1 ≡ 1)
  unfolding state_at
  stopped_is = laws.iff_eq (value_at b 127 1) 1

  awake-is : (OutOfRanges b → ⊥) → ((state_at b).stopped ≡ false) ↔ (value_at b 127 1 ≡ 0)
  awake-is n = laws.iff_trans (laws.iff_not (state_at b).stopped stopped_is) (there, λ h e. omega arith)
    where
      there : (value_at b 127 1 ≡ 1 → ⊥) → value_at b 127 1 ≡ 0
      there k = by-lt (value_at b 127 1) 1 (λ h. omega arith) (λ h. by-lt 1 (value_at b 127 1) (λ o. absurd (n (last-above o))) (λ o. absurd (k (omega arith))))

  module _ (l : Lent) where
    begins : (X : Cpu → Type 0) → ((replied ≡ 0) × (Ready (read_block b).cpu l × X (read_block b).cpu)) ↔ (Begins b l × X (state_at b))
    begins X = (there, back)
      where
        there : (replied ≡ 0) × (Ready (read_block b).cpu l × X (read_block b).cpu) → Begins b l × X (state_at b)
        there h =
            let f : BlockForm b × (OutOfRanges b → ⊥) = ((exact.reply_8_and_9).read_block_0 b).0 h.0 in
            ((f.0, (((exact.meanings).usable l).0 (((exact.meanings).ready (read_block b).cpu l).0 h.1.0).0, f.1)), rw (says h.0) at h.1.1)

        back : Begins b l × X (state_at b) → (replied ≡ 0) × (Ready (read_block b).cpu l × X (read_block b).cpu)
        back h =
            let e : replied ≡ 0 = ((exact.reply_8_and_9).read_block_0 b).1 (h.0.0, h.0.1.1) in
            (e, (((exact.meanings).ready (read_block b).cpu l).1 (((exact.meanings).usable l).1 h.0.1.0, admits.by-read_block b), rw (says e) h.1))

    goes_on : (X : Cpu → Type 0) → ((replied ≡ 0) × (Ready (read_block b).cpu l × (((read_block b).cpu.stopped ≡ false) × X (read_block b).cpu))) ↔ (Begins b l × ((value_at b 127 1 ≡ 0) × X (state_at b)))
    goes_on X =
        laws.iff_trans (begins (λ s. (s.stopped ≡ false) × X s))
        (λ h. (h.0, ((awake-is h.0.1.1).0 h.1.0, h.1.1)), λ h. (h.0, ((awake-is h.0.1.1).1 h.1.0, h.1.1)))

    -- every block and every step has its row
    has_row : (n : ℕ) → OnBlock replied l n (numbered (step (read_block b).cpu l)) → OneOf (0 ∷ 2 ∷ 8 ∷ 9 ∷ []) replied
        → OneOf (0 ∷ 1 ∷ 2 ∷ 3 ∷ 4 ∷ []) (numbered (step (read_block b).cpu l)) → OneOf (0 ∷ 1 ∷ 2 ∷ 3 ∷ 4 ∷ 8 ∷ 9 ∷ []) n
    has_row n on (inl r) (inl e) = inl ((on.gives 0 (inl refl)).1 (r, e))
    has_row n on (inl r) (inr (inl e)) = inr (inl (on.gives_1.1 (inl r, ((exact.reply_1).step_1 (read_block b).cpu l).0 e)))
    has_row n on (inl r) (inr (inr (inl e))) = absurd (never_2 b ((exact.reply_2).step_2 (read_block b).cpu l) e)
    has_row n on (inl r) (inr (inr (inr (inl e)))) = inr (inr (inr (inl ((on.gives 3 (inr (omega arith, omega arith))).1 (r, e)))))
    has_row n on (inl r) (inr (inr (inr (inr (inl e))))) = inr (inr (inr (inr (inl ((on.gives 4 (inr (omega arith, omega arith))).1 (r, e))))))
    has_row n on (inl r) (inr (inr (inr (inr (inr never))))) = elim never [ ]
    has_row n on (inr (inl r)) w =
        by-lt 0x100_0000 (length l.storage)
        (λ o. inr (inl (on.gives_1.1 (inr r, o))))
        (λ o. inr (inr (inl (on.gives_2.1 (r, ((exact.meanings).usable l).1 (λ x. omega arith))))))
    has_row n on (inr (inr (inl r))) w = inr (inr (inr (inr (inr (inl (on.gives_8.1 r))))))
    has_row n on (inr (inr (inr (inl r)))) w = inr (inr (inr (inr (inr (inr (inl (on.gives_9.1 r)))))))
    has_row n on (inr (inr (inr (inr never)))) w = elim never [ ]

    pub step-table : StepTable b l
    step-table =
        let on : OnBlock replied l (reply_in (step_on b l)) (numbered (step (read_block b).cpu l)) = step-replies b l in
        let s : Cpu = (read_block b).cpu in
        let m : Memory = memory_of l in
        record {
          gives_9 = laws.iff_trans on.gives_9 ((exact.reply_8_and_9).read_block_9 b);
          gives_8 = laws.iff_trans on.gives_8 ((exact.reply_8_and_9).read_block_8 b);
          gives_1 = laws.iff_trans on.gives_1 (laws.iff_and formed laws.iff_same);
          gives_2 = laws.iff_trans on.gives_2 (laws.iff_trans (laws.iff_and ((exact.reply_8_and_9).read_block_2 b) ((exact.meanings).usable l)) (λ h. (h.0.0, (h.1, h.0.1)), λ h. ((h.0, h.1.1), h.1.0)));
          gives_3 = laws.iff_trans (on.gives 3 (inr (omega arith, omega arith)))
              (laws.iff_trans (laws.iff_and laws.iff_same ((exact.reply_3).step_3 s l))
              (laws.iff_trans (begins (λ s. s.stopped ≡ true)) (laws.iff_and laws.iff_same stopped_is)));
          gives_4 = laws.iff_trans (on.gives 4 (inr (omega arith, omega arith)))
              (laws.iff_trans (laws.iff_and laws.iff_same ((exact.reply_4).step_4 s l)) (goes_on (λ s. SomeOutside m (accesses s m))));
          gives_5 = λ e. (exact.reply_5).step_5 s l ((on.gives 5 (inr (omega arith, omega arith))).0 e).1;
          gives_0 = laws.iff_trans (on.gives 0 (inl refl))
              (laws.iff_trans (laws.iff_and laws.iff_same ((exact.reply_0).step_0 s l)) (goes_on (λ s. SomeOutside m (accesses s m) → ⊥)));
          no_other = has_row (reply_in (step_on b l)) on ((exact.no-others).read-block_of b) ((exact.no-others).step_of s l);
        }
