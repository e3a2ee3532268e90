-- A run is that many steps. Document: "Numbered replies", of runs.
--
-- A run of budget n steps until n are done (reply 0) or one is refused (that reply). Its count, state and memory are those of that
-- many steps, each of them done; a run that stops early stops at the first step that is refused. Replies 1 and 2 come first at
-- every budget, with count 0 and the state and memory as given. Budget 0 otherwise gives 0 and count 0. Steps that can be done one
-- after the other have one end, and a run does them. Memory stays as long as it was, and its bytes stay bytes. Assumes nothing.
use Prim.Native.Nat.{ℕ, zero, suc, ◌+◌, ◌/◌, ◌%◌, ◌<◌}
use Rattle.std.specs.Prelude.{◌≡◌, refl, Bool, cond, List, ◌⊎◌, eqb, length, Result, Option, Ok, Err, None}
use Rattle.std.proofs.Common.{sym, ap, ◌∙◌, ⊎_elim, inl, inr, arith}
use Rattle.std.proofs.Math.Bool.{true, false}
use Rattle.manual.specs.declared.Fault.{Fault}
use Rattle.manual.specs.declared.Cpu.{Cpu}
use Rattle.manual.specs.declared.Reply.TheVariants.{Done, Stopped}
use Rattle.manual.specs.declared.Size.{Size}
use Rattle.manual.specs.declared.Size.TheVariants.{Long}
use Rattle.manual.specs.declared.Action.{Action}
use Rattle.manual.specs.declared.Action.TheVariants.{Nothing, Store, StoreMany, LoadMany, Enter, Return, Status, Stop, PushStatus, Halt, SetOther, Accumulate, SetAcc, SetExt, SetMacsr, SetMask, CopyAcc, ClearAcc, MoveControl, Refuse}
use Rattle.manual.specs.declared.Change.{Change}
use Rattle.manual.specs.Word.{bytes, plus, minus}
use Rattle.manual.specs.Registers.{address_of, general, applied}
use Rattle.manual.specs.Memory.{Storage, Memory, storage_of, store_at, access, load, storing, stored_in, stored, access_many, stored_many}
use Rattle.manual.specs.Differences.{vector_place}
use Rattle.manual.specs.Exceptions.{set_sr, handler_sr, pc_place, frame_place, entered, returned}
use Rattle.manual.specs.Reply.{is_done, Outcome, unchanged}
use Rattle.manual.specs.Lent.{Lent, memory_of, lent_on, first_refusal}
use Rattle.instructions.specs.Perform.{status_pushed, act, perform}
use Rattle.instructions.specs.Step.{execute, step}
use Rattle.instructions.specs.Run.{RunOutcome, ended, after_one, steps, run}
use Rattle.memory.specs.MemoryLaws.{length_store}
use Rattle.demands.specs.Steps.{Steps, none, one_more}
use Rattle.demands.specs.Exact.{Bytes, Ready}
use Rattle.demands.specs.AccessLaws.{accessing-all, loading-all, taking-all}
use Rattle.demands.specs.Refusals.{NotZero, is-done, is-not, step_kept}
use Rattle.demands.specs.ValueLaws.{store_bytes}

-- all were done, or the next one is refused, with the run's reply
abbrev pub Ends : ℕ → Lent → RunOutcome → Type 0
Ends budget l r =
    ((r.ran.reply ≡ Done) × (r.ran.count ≡ budget))
    ⊎ ((r.ran.count < budget) × (NotZero r.ran.reply × ((step r.ran.cpu (lent_on l r.storage)).stepped.reply ≡ r.ran.reply)))

pub record Runs : Type 0 where
  pub first : (budget : ℕ) (s : Cpu) (l : Lent) → is_done (first_refusal s l) ≡ false → run budget s l ≡ ended (first_refusal s l) 0 s l.storage
  pub that_many : (budget : ℕ) (s : Cpu) (l : Lent) → Steps (run budget s l).ran.count s l (run budget s l).ran.cpu (lent_on l (run budget s l).storage)
  pub as_long : (budget : ℕ) (s : Cpu) (l : Lent) → length (run budget s l).storage ≡ length l.storage
  pub still_bytes : (budget : ℕ) (s : Cpu) (l : Lent) → Bytes l.storage → Bytes (run budget s l).storage
  pub ends : (budget : ℕ) (s : Cpu) (l : Lent) → Ready s l → Ends budget l (run budget s l)
  -- budget 0 gives 0 and count 0, also when stopped, with the state and memory as given
  pub budget_0 : (s : Cpu) (l : Lent) → Ready s l → run 0 s l ≡ ended Done 0 s l.storage
  -- steps that can be done one after the other are done, and lead to one end
  pub does_them : (budget : ℕ) (s s' : Cpu) (l l' : Lent) → Ready s l → Steps budget s l s' l' → run budget s l ≡ ended Done budget s' l'.storage
  pub one_end : (n : ℕ) (s s₁ s₂ : Cpu) (l l₁ l₂ : Lent) → Steps n s l s₁ l₁ → Steps n s l s₂ l₂ → (s₁ ≡ s₂) × (l₁.storage ≡ l₂.storage)

-- ---- the proofs

-- a run r from s and l
abbrev Ran : ℕ → Cpu → Lent → RunOutcome → Type 0
Ran budget s l r = Steps r.ran.count s l r.ran.cpu (lent_on l r.storage) × Ends budget l r

steps-many : (budget : ℕ) (s : Cpu) (l : Lent) → Ran budget s l (steps budget s l)
unfolding steps
steps-many zero s l = (none, inl (refl, refl))
steps-many (suc left) s l = by (is_done (step s l).stepped.reply) refl (steps-many left t l')
  where
    t : Cpu
    t = (step s l).stepped.cpu

    l' : Lent
    l' = lent_on l (step s l).storage

    by : (b : Bool) → is_done (step s l).stepped.reply ≡ b → Ran left t l' (steps left t l')
        → Ran (suc left) s l (cond b (after_one (steps left t l')) (ended (step s l).stepped.reply 0 t (step s l).storage))
    by true e ih = (
      one_more (is-done (step s l).stepped.reply e) ih.0,
      ⊎_elim (λ h. inl (h.0, ap suc h.1)) (λ h. inr (omega (arith, h.0), h.1)) ih.1,
    )
    by false e ih =
        let u : ((t ≡ s) × ((step s l).storage ≡ l.storage)) × ((step s l).stepped.vector ≡ 0) = step_kept s l (is-not (step s l).stepped.reply e) in
        (rw (u.0.0, u.0.1) none, inr (omega arith, (is-not (step s l).stepped.reply e, again u.0.0 u.0.1)))
      where
        again : {s' : Cpu} {b : Storage} → s' ≡ s → b ≡ l.storage → (step s' (lent_on l b)).stepped.reply ≡ (step s l).stepped.reply
        again p q = rw (p, q)

-- ---- what every store keeps of storage, a step keeps, and so does a run

module _ (K : Storage → Type 0) (keeps : (b : Storage) (a n v : ℕ) → K b → K (store_at b a n v)) where
  pub stored-kept : (m : Memory) (a : ℕ) (z : Size) (v : ℕ) → K (storage_of m) → K (stored m a z v)
  unfolding stored
  stored-kept m a z v h = by (access m a (bytes z))
    where
      by : (x : Result ℕ Fault) → K (stored_in (storage_of m) z v x)
      by (Ok at) = keeps (storage_of m) at (bytes z) v h
      by (Err x) = h

  many-kept : (left : ℕ) (g : List ℕ) (n mask at : ℕ) (m : Memory) → K (storage_of m) → K (stored_many left g n mask at m)
  unfolding stored_many
  many-kept zero g n mask at m h = h
  many-kept (suc left) g n mask at m h =
      pick (eqb (mask % 2) 1) _ _ (many-kept left g (n + 1) (mask / 2) (plus at 4) _ (stored-kept m at Long (general g n) h)) (many-kept left g (n + 1) (mask / 2) at m h)
    where
      pick : (b : Bool) (x y : Storage) → K x → K y → K (cond b x y)
      pick true x y p q = p
      pick false x y p q = q

  abbrev Keeps : Outcome → Type 0
  Keeps o = K o.storage

  either-kept : (b : Bool) (x y : Outcome) → Keeps x → Keeps y → Keeps (cond b x y)
  either-kept true x y p q = p
  either-kept false x y p q = q

  module _ (given : Cpu) (m : Memory) (h : K (storage_of m)) where
    pub entered-kept : (s : Cpu) (level : Option ℕ) (vector pc : ℕ) → Keeps (entered given s level vector pc m)
    unfolding entered
    entered-kept s level vector pc =
        let t : Cpu = set_sr (handler_sr level s.sr) s in
        let sp : ℕ = address_of t.r 7 in
        accessing-all Keeps given m (λ x. h) (access m (pc_place sp) 4) _ λ high.
        accessing-all Keeps given m (λ x. h) (access m (frame_place sp) 4) _ λ low.
        accessing-all Keeps given m (λ x. h) (access m (vector_place s.vbr vector) 4) _ λ table.
        keeps _ low 4 _ (keeps (storage_of m) high 4 pc h)

    pub returned-kept : (s : Cpu) → Keeps (returned given s m)
    unfolding returned
    returned-kept s =
        let sp : ℕ = address_of s.r 7 in
        loading-all Keeps given m (λ x. h) (load m sp Long) _ λ w.
        loading-all Keeps given m (λ x. h) (load m (plus sp 4) Long) _ λ pc.
        h

    act-kept : (s : Cpu) (a : Action) → Keeps (act given s a m)
    unfolding status_pushed
    act-kept s Nothing = h
    act-kept s (Store a z v) = taking-all Keeps given m (λ x. h) (storing m a z) _ (stored-kept m a z v h)
    act-kept s (StoreMany mask a) = taking-all Keeps given m (λ x. h) (access_many 16 m mask a) _ (many-kept 16 s.r 0 mask a m h)
    act-kept s (LoadMany mask a) = taking-all Keeps given m (λ x. h) (access_many 16 m mask a) _ h
    act-kept s (Enter vector pc) = entered-kept s None vector pc
    act-kept s Return = returned-kept s
    act-kept s (Status v) = h
    act-kept s (Stop v) = h
    act-kept s (PushStatus v) =
        let sp : ℕ = minus (address_of s.r 7) 4 in
        taking-all Keeps given m (λ x. h) (storing m sp Long) _ (stored-kept m sp Long s.sr h)
    act-kept s Halt = h
    act-kept s (SetOther v) = h
    act-kept s (Accumulate i scale sub x y) = h
    act-kept s (SetAcc i v) = h
    act-kept s (SetExt i v) = h
    act-kept s (SetMacsr v) = h
    act-kept s (SetMask v) = h
    act-kept s (CopyAcc from to) = h
    act-kept s (ClearAcc i) = h
    act-kept s (MoveControl writes c n) = h
    act-kept s (Refuse n) = h

  pub step-storage : (s : Cpu) (l : Lent) → K l.storage → Keeps (step s l)
  unfolding step perform
  step-storage s l h =
      let m : Memory = memory_of l in
      let c : Change = execute s.r s.pc s.sr s.other s.emac m in
      either-kept (is_done (first_refusal s l)) _ (unchanged s (first_refusal s l) m)
      (either-kept s.stopped (unchanged s Stopped m) _ h (act-kept s m h (applied s c) c.action))
      h

  steps-storage : (budget : ℕ) (s : Cpu) (l : Lent) → K l.storage → K (steps budget s l).storage
  unfolding steps
  steps-storage zero s l h = h
  steps-storage (suc left) s l h =
      by (is_done (step s l).stepped.reply) (steps left (step s l).stepped.cpu (lent_on l (step s l).storage))
      (steps-storage left (step s l).stepped.cpu (lent_on l (step s l).storage) (step-storage s l h))
    where
      by : (b : Bool) (r : RunOutcome) → K r.storage → K (cond b (after_one r) (ended (step s l).stepped.reply 0 (step s l).stepped.cpu (step s l).storage)).storage
      by true r a = a
      by false r a = step-storage s l h

  run-storage : (budget : ℕ) (s : Cpu) (l : Lent) → K l.storage → K (run budget s l).storage
  unfolding run
  run-storage budget s l h = by (is_done (first_refusal s l))
    where
      by : (b : Bool) → K (cond b (steps budget s l) (ended (first_refusal s l) 0 s l.storage)).storage
      by true = steps-storage budget s l h
      by false = h

-- ---- the tests before it

run-first : (budget : ℕ) (s : Cpu) (l : Lent) → is_done (first_refusal s l) ≡ false → run budget s l ≡ ended (first_refusal s l) 0 s l.storage
unfolding run
run-first budget s l h = rw h

pub run-steps : (budget : ℕ) (s : Cpu) (l : Lent) → Ready s l → run budget s l ≡ steps budget s l
unfolding run
run-steps budget s l h = rw h

that_many : (budget : ℕ) (s : Cpu) (l : Lent) → Steps (run budget s l).ran.count s l (run budget s l).ran.cpu (lent_on l (run budget s l).storage)
unfolding run
that_many budget s l = by (is_done (first_refusal s l))
  where
    by : (b : Bool)
        → let r : RunOutcome = cond b (steps budget s l) (ended (first_refusal s l) 0 s l.storage) in
        Steps r.ran.count s l r.ran.cpu (lent_on l r.storage)
    by true = (steps-many budget s l).0
    by false = none

run_none : (s : Cpu) (l : Lent) → Ready s l → run 0 s l ≡ ended Done 0 s l.storage
unfolding steps
run_none s l h = run-steps 0 s l h

steps_all : {n : ℕ} {s s' : Cpu} {l l' : Lent} → Steps n s l s' l' → steps n s l ≡ ended Done n s' l'.storage
unfolding steps
steps_all none = refl
steps_all (one_more {n} {s} {s'} {l} {l'} d h) = rw d (ap after_one (steps_all h))

one_end : {n : ℕ} {s s₁ s₂ : Cpu} {l l₁ l₂ : Lent} → Steps n s l s₁ l₁ → Steps n s l s₂ l₂ → (s₁ ≡ s₂) × (l₁.storage ≡ l₂.storage)
one_end {n} {s} {s₁} {s₂} {l} {l₁} {l₂} p q =
    let e : ended Done n s₁ l₁.storage ≡ ended Done n s₂ l₂.storage = sym (steps_all p) ∙ steps_all q in
    (ap (λ (r : RunOutcome). r.ran.cpu) e, ap (λ (r : RunOutcome). r.storage) e)

pub runs : Runs
runs = record {
  first = run-first;
  that_many = that_many;
  as_long = λ budget s l. run-storage (λ b. length b ≡ length l.storage) (λ b a n v e. length_store b a n v ∙ e) budget s l refl;
  still_bytes = λ budget s l. run-storage Bytes store_bytes budget s l;
  ends = λ budget s l h. rw (run-steps budget s l h) (steps-many budget s l).1;
  budget_0 = run_none;
  does_them = λ budget s s' l l' h d. run-steps budget s l h ∙ steps_all d;
  one_end = λ n s s₁ s₂ l l₁ l₂. one_end;
}
