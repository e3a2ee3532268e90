-- A refused call changes nothing. Document: "Numbered replies".
--
-- For every call, every reply but 0 returns the state as given, memory as given and 0 for any other value. A step that is refused
-- changes no byte. (A read of a state block or of a file is given no state: refused, it returns the fresh one.) Assumes nothing.
use Prim.Native.Nat.{ℕ}
use Rattle.std.specs.Prelude.{◌≡◌, refl, Bool, true, false, cond, ◌&&◌, List, eqb, ltb, length, Result, Option, Ok, Err, Some}
use Rattle.std.proofs.Common.{sym, arith}
use Rattle.std.proofs.lemmas.Bool.{false≢true}
use Rattle.manual.specs.declared.Cpu.{Cpu}
use Rattle.manual.specs.declared.Size.TheVariants.{Long}
use Rattle.manual.specs.declared.Fault.{Fault}
use Rattle.manual.specs.declared.Reply.{Reply}
use Rattle.manual.specs.declared.Reply.TheVariants.{Done, TooLong, NotAdmitted, Stopped, NotInside, NotCarried, OutOfRange, Masked, WrongVersion, WrongLength}
use Rattle.manual.specs.declared.Answer.{Answer}
use Rattle.manual.specs.declared.Told.{Told}
use Rattle.manual.specs.declared.Popped.{Popped}
use Rattle.manual.specs.declared.Action.{Action}
use Rattle.manual.specs.declared.Action.TheVariants.{Nothing, Store, StoreMany, LoadMany, Enter, Return, Status, Stop, PushStatus, Halt, SetOther, Accumulate, SetAcc, SetExt, SetMacsr, SetMask, CopyAcc, ClearAcc, MoveControl, Refuse}
use Rattle.manual.specs.declared.Change.{Change}
use Rattle.manual.specs.Word.{plus, minus}
use Rattle.manual.specs.Registers.{address_of, applied}
use Rattle.manual.specs.Memory.{Storage, Memory, storage_of, value_at, access, load, storing, access_many}
use Rattle.manual.specs.Reply.{number_of, is_done, Outcome, completed, unchanged, refusal, fault_reply}
use Rattle.manual.specs.Admitted.{admitted}
use Rattle.manual.specs.Lent.{Lent, memory_of, first_refusal, checked}
use Rattle.manual.specs.Differences.{vector_place}
use Rattle.manual.specs.Exceptions.{set_sr, handler_sr, pc_place, frame_place, entered, returned, level_taken, masked, exception, interrupt, rte, push32, not_popped, popped, pop32, set_sr_call, told, ipl, supervisor_call}
use Rattle.manual.specs.EmacCalls.{acc_get_call, acc_set_call, acc_phys_call, set_acc_phys_call, set_macsr_call}
use Rattle.manual.specs.Block.{fresh, not_read, says_admitted, state_at, read_block, block_of, Stored, store_block}
use Rattle.manual.specs.Image.{image_state, image_reply, image_budget, image_bytes, Image, image, not_loaded, load_image}
use Rattle.instructions.specs.Perform.{status_pushed, act, perform}
use Rattle.instructions.specs.Step.{execute, step}
use Rattle.demands.specs.AccessLaws.{accessing-all, loading-all, taking-all}

-- the reply is not 0
abbrev pub NotZero : Reply → Type 0
NotZero n = number_of n ≡ 0 → ⊥

-- if the reply is not 0, the state is s, storage is b and the vector is 0
abbrev pub Unchanged : Cpu → Storage → Outcome → Type 0
Unchanged s b o = NotZero o.stepped.reply → ((o.stepped.cpu ≡ s) × (o.storage ≡ b)) × (o.stepped.vector ≡ 0)

pub record Refusals : Type 0 where
  pub of_step : (s : Cpu) (l : Lent) → Unchanged s l.storage (step s l)
  pub of_perform : (s : Cpu) (c : Change) (m : Memory) → Unchanged s (storage_of m) (perform s c m)
  pub of_exception : (s : Cpu) (l : Lent) (vector pc : ℕ) (level : Option ℕ) → Unchanged s l.storage (exception s l vector pc level)
  pub of_interrupt : (s : Cpu) (l : Lent) (vector level : ℕ) → Unchanged s l.storage (interrupt s l vector level)
  pub of_rte : (s : Cpu) (l : Lent) → Unchanged s l.storage (rte s l)
  pub of_push32 : (s : Cpu) (l : Lent) (v : ℕ) → Unchanged s l.storage (push32 s l v)
  pub of_pop32 : (s : Cpu) (l : Lent) → NotZero (pop32 s l).reply → ((pop32 s l).cpu ≡ s) × ((pop32 s l).value ≡ 0)
  pub of_set_sr : (s : Cpu) (v : ℕ) → NotZero (set_sr_call s v).reply → (set_sr_call s v).cpu ≡ s
  pub of_ipl : (s : Cpu) → NotZero (ipl s).reply → (ipl s).value ≡ 0
  pub of_supervisor : (s : Cpu) → NotZero (supervisor_call s).reply → (supervisor_call s).value ≡ 0
  pub of_acc_get : (s : Cpu) (i : ℕ) → NotZero (acc_get_call s i).reply → (acc_get_call s i).value ≡ 0
  pub of_acc_phys : (s : Cpu) (i : ℕ) → NotZero (acc_phys_call s i).reply → (acc_phys_call s i).value ≡ 0
  pub of_acc_set : (s : Cpu) (i v : ℕ) → NotZero (acc_set_call s i v).reply → (acc_set_call s i v).cpu ≡ s
  pub of_set_acc_phys : (s : Cpu) (i acc ext : ℕ) → NotZero (set_acc_phys_call s i acc ext).reply → (set_acc_phys_call s i acc ext).cpu ≡ s
  pub of_set_macsr : (s : Cpu) (v : ℕ) → NotZero (set_macsr_call s v).reply → (set_macsr_call s v).cpu ≡ s
  pub of_read_block : (b : List ℕ) → NotZero (read_block b).reply → (read_block b).cpu ≡ fresh
  pub of_store_block : (s : Cpu) (b : List ℕ) → NotZero (store_block s b).reply → (store_block s b).bytes ≡ b
  pub of_load_image : (f : List ℕ) (m : Storage) → NotZero (load_image f m).reply → (((load_image f m).cpu ≡ fresh) × ((load_image f m).storage ≡ m)) × ((load_image f m).budget ≡ 0)

-- ---- the proofs: each is a tree of tests, whose leaves are done or unchanged

pub is-done : (n : Reply) → is_done n ≡ true → n ≡ Done
is-done Done h = refl
is-done TooLong h = absurd (false≢true h)
is-done NotAdmitted h = absurd (false≢true h)
is-done Stopped h = absurd (false≢true h)
is-done NotInside h = absurd (false≢true h)
is-done NotCarried h = absurd (false≢true h)
is-done OutOfRange h = absurd (false≢true h)
is-done Masked h = absurd (false≢true h)
is-done WrongVersion h = absurd (false≢true h)
is-done WrongLength h = absurd (false≢true h)

pub is-not : (n : Reply) → is_done n ≡ false → NotZero n
is-not Done h = absurd (false≢true (sym h))
is-not TooLong h = λ e. omega arith
is-not NotAdmitted h = λ e. omega arith
is-not Stopped h = λ e. omega arith
is-not NotInside h = λ e. omega arith
is-not NotCarried h = λ e. omega arith
is-not OutOfRange h = λ e. omega arith
is-not Masked h = λ e. omega arith
is-not WrongVersion h = λ e. omega arith
is-not WrongLength h = λ e. omega arith

done-not : NotZero Done → ⊥
done-not h = h refl

-- done is reply 0, and the only one
pub done-is : (n : Reply) → number_of n ≡ 0 → n ≡ Done
done-is n e = by (is_done n) refl
  where
    by : (b : Bool) → is_done n ≡ b → n ≡ Done
    by true d = is-done n d
    by false d = absurd (is-not n d e)

pub is-refused : (n : Reply) → NotZero n → is_done n ≡ false
is-refused n h = by (is_done n) refl
  where
    by : (b : Bool) → is_done n ≡ b → b ≡ false
    by true d = absurd (done-not (rw (is-done n d) at h))
    by false d = refl

module _ (given : Cpu) (m : Memory) where
  abbrev Kept : Outcome → Type 0
  Kept = Unchanged given (storage_of m)

  either : (b : Bool) (x y : Outcome) → Kept x → Kept y → Kept (cond b x y)
  either true x y p q = p
  either false x y p q = q

  done-kept : (s : Cpu) (n : ℕ) (b : Storage) → Kept (completed s n b)
  done-kept s n b h = absurd (done-not h)

  same_kept : (n : Reply) → Kept (unchanged given n m)
  unfolding refusal
  same_kept n h = ((refl, refl), refl)

  fault_kept : (x : Fault) → Kept (unchanged given (fault_reply x) m)
  fault_kept x = same_kept (fault_reply x)

  entered-kept : (s : Cpu) (level : Option ℕ) (vector pc : ℕ) → Kept (entered given s level vector pc m)
  unfolding entered
  entered-kept s level vector pc =
      let t : Cpu = set_sr (handler_sr level s.sr) s in
      let sp : ℕ = address_of t.r 7 in
      accessing-all Kept given m fault_kept (access m (pc_place sp) 4) _ λ high.
      accessing-all Kept given m fault_kept (access m (frame_place sp) 4) _ λ low.
      accessing-all Kept given m fault_kept (access m (vector_place s.vbr vector) 4) _ λ table.
      done-kept _ vector _

  returned-kept : (s : Cpu) → Kept (returned given s m)
  unfolding returned
  returned-kept s =
      let sp : ℕ = address_of s.r 7 in
      loading-all Kept given m fault_kept (load m sp Long) _ λ w.
      loading-all Kept given m fault_kept (load m (plus sp 4) Long) _ λ pc.
      done-kept _ 0 _

  act-kept : (s : Cpu) (a : Action) → Kept (act given s a m)
  unfolding status_pushed
  act-kept s Nothing = done-kept s 0 _
  act-kept s (Store a z v) = taking-all Kept given m fault_kept (storing m a z) _ (done-kept s 0 _)
  act-kept s (StoreMany mask a) = taking-all Kept given m fault_kept (access_many 16 m mask a) _ (done-kept s 0 _)
  act-kept s (LoadMany mask a) = taking-all Kept given m fault_kept (access_many 16 m mask a) _ (done-kept _ 0 _)
  act-kept s (Enter vector pc) = entered-kept s _ vector pc
  act-kept s Return = returned-kept s
  act-kept s (Status v) = done-kept _ 0 _
  act-kept s (Stop v) = done-kept _ 0 _
  act-kept s (PushStatus v) = taking-all Kept given m fault_kept (storing m (minus (address_of s.r 7) 4) Long) _ (done-kept _ 0 _)
  act-kept s Halt = done-kept _ 0 _
  act-kept s (SetOther v) = done-kept _ 0 _
  act-kept s (Accumulate i scale sub x y) = done-kept _ 0 _
  act-kept s (SetAcc i v) = done-kept _ 0 _
  act-kept s (SetExt i v) = done-kept _ 0 _
  act-kept s (SetMacsr v) = done-kept _ 0 _
  act-kept s (SetMask v) = done-kept _ 0 _
  act-kept s (CopyAcc from to) = done-kept _ 0 _
  act-kept s (ClearAcc i) = done-kept _ 0 _
  act-kept s (MoveControl writes c n) = done-kept _ 0 _
  act-kept s (Refuse n) = same_kept n

  pub perform_kept : (c : Change) → Kept (perform given c m)
  unfolding perform
  perform_kept c = act-kept (applied given c) c.action

module _ (given : Cpu) (l : Lent) where
  abbrev m : Memory
  m = memory_of l

  checked-kept : (o : Outcome) → Unchanged given l.storage o → Unchanged given l.storage (checked given l o)
  checked-kept o h = either given m (is_done (first_refusal given l)) o (unchanged given (first_refusal given l) m) h (same_kept given m (first_refusal given l))

  pub step_kept : Unchanged given l.storage (step given l)
  unfolding step
  step_kept =
      checked-kept _
      (either given m given.stopped (unchanged given Stopped m) _ (same_kept given m Stopped)
      (perform_kept given m (execute given.r given.pc given.sr given.other given.emac m)))

  exception-kept : (vector pc : ℕ) (level : Option ℕ) → Unchanged given l.storage (exception given l vector pc level)
  unfolding exception
  exception-kept vector pc level =
      checked-kept _ (either given m (level_taken level) _ (unchanged given OutOfRange m) (entered-kept given m given level vector pc) (same_kept given m OutOfRange))

  interrupt-kept : (vector level : ℕ) → Unchanged given l.storage (interrupt given l vector level)
  unfolding interrupt
  interrupt-kept vector level =
      checked-kept _
      (either given m (ltb level 8) (cond (masked given.sr level) (unchanged given Masked m) (entered given given (Some level) vector given.pc m)) (unchanged given OutOfRange m)
      (either given m (masked given.sr level) (unchanged given Masked m) _ (same_kept given m Masked) (entered-kept given m given (Some level) vector given.pc))
      (same_kept given m OutOfRange))

  rte-kept : Unchanged given l.storage (rte given l)
  unfolding rte
  rte-kept = checked-kept _ (returned-kept given m given)

  push_kept : (v : ℕ) → Unchanged given l.storage (push32 given l v)
  unfolding push32
  push_kept v =
      checked-kept _ (taking-all (Kept given m) given m (fault_kept given m) (storing m (minus (address_of given.r 7) 4) Long) _ (done-kept given m _ 0 _))

  pop_kept : NotZero (pop32 given l).reply → ((pop32 given l).cpu ≡ given) × ((pop32 given l).value ≡ 0)
  unfolding pop32
  pop_kept = by (is_done (first_refusal given l)) (load m sp Long)
    where
      sp : ℕ
      sp = address_of given.r 7

      by : (b : Bool) (x : Result ℕ Fault)
          → let o : Popped = cond b (popped given sp x) (not_popped given (first_refusal given l)) in
          NotZero o.reply → (o.cpu ≡ given) × (o.value ≡ 0)
      by true (Ok v) h = absurd (done-not h)
      by true (Err x) h = (refl, refl)
      by false x h = (refl, refl)

set_sr-by : (b : Bool) (s : Cpu) (x : Cpu)
    → let o : Answer = cond b (record { reply = Done; cpu = x }) (record { reply = NotAdmitted; cpu = s }) in
    NotZero o.reply → o.cpu ≡ s
set_sr-by true s x h = absurd (done-not h)
set_sr-by false s x h = refl

set_sr-kept : (s : Cpu) (v : ℕ) → NotZero (set_sr_call s v).reply → (set_sr_call s v).cpu ≡ s
unfolding set_sr_call
set_sr-kept s v h = set_sr-by (admitted s) s (set_sr v s) h

told-by : (b : Bool) (v : ℕ) → let o : Told = cond b (record { reply = Done; value = v }) (record { reply = NotAdmitted; value = 0 }) in NotZero o.reply → o.value ≡ 0
told-by true v h = absurd (done-not h)
told-by false v h = refl

told_zero : (s : Cpu) (v : ℕ) → NotZero (told s v).reply → (told s v).value ≡ 0
unfolding told
told_zero s v h = told-by (admitted s) v h

acc_told-by : (a b : Bool) (v : ℕ)
    → let o : Told = cond a (cond b (record { reply = Done; value = v }) (record { reply = OutOfRange; value = 0 })) (record { reply = NotAdmitted; value = 0 }) in
    NotZero o.reply → o.value ≡ 0
acc_told-by true true v h = absurd (done-not h)
acc_told-by true false v h = refl
acc_told-by false b v h = refl

acc_get_zero : (s : Cpu) (i : ℕ) → NotZero (acc_get_call s i).reply → (acc_get_call s i).value ≡ 0
unfolding acc_get_call
acc_get_zero s i h = acc_told-by (admitted s) (ltb i 4) _ h

acc_phys_zero : (s : Cpu) (i : ℕ) → NotZero (acc_phys_call s i).reply → (acc_phys_call s i).value ≡ 0
unfolding acc_phys_call
acc_phys_zero s i h = acc_told-by (admitted s) (ltb i 4) _ h

acc_changed-by : (a b : Bool) (s t : Cpu)
    → let o : Answer = cond a (cond b (record { reply = Done; cpu = t }) (record { reply = OutOfRange; cpu = s })) (record { reply = NotAdmitted; cpu = s }) in
    NotZero o.reply → o.cpu ≡ s
acc_changed-by true true s t h = absurd (done-not h)
acc_changed-by true false s t h = refl
acc_changed-by false b s t h = refl

acc_set_kept : (s : Cpu) (i v : ℕ) → NotZero (acc_set_call s i v).reply → (acc_set_call s i v).cpu ≡ s
unfolding acc_set_call
acc_set_kept s i v h = acc_changed-by (admitted s) (ltb i 4) s _ h

set_acc_phys_kept : (s : Cpu) (i acc ext : ℕ) → NotZero (set_acc_phys_call s i acc ext).reply → (set_acc_phys_call s i acc ext).cpu ≡ s
unfolding set_acc_phys_call
set_acc_phys_kept s i acc ext h = acc_changed-by (admitted s) (ltb i 4) s _ h

set_macsr-kept : (s : Cpu) (v : ℕ) → NotZero (set_macsr_call s v).reply → (set_macsr_call s v).cpu ≡ s
unfolding set_macsr_call
set_macsr-kept s v h = set_sr-by (admitted s) s _ h

read_by : (a b c d : Bool) (s : Cpu)
    → let o : Answer = cond a (not_read WrongLength) (cond b (cond c (cond d (record { reply = Done; cpu = s }) (not_read NotAdmitted)) (not_read WrongLength)) (not_read WrongVersion)) in
    NotZero o.reply → o.cpu ≡ fresh
read_by true b c d s h = refl
read_by false true true true s h = absurd (done-not h)
read_by false true true false s h = refl
read_by false true false d s h = refl
read_by false false c d s h = refl

read-fresh : (b : List ℕ) → NotZero (read_block b).reply → (read_block b).cpu ≡ fresh
unfolding read_block
read-fresh b h = read_by (ltb (length b) 5) (eqb (value_at b 0 1) 1) (eqb (length b) 128 && eqb (value_at b 1 4) 123) (says_admitted b) (state_at b) h

store_by : (x y : Bool) (new b : List ℕ)
    → let o : Stored = cond x (cond y (record { reply = Done; bytes = new }) (record { reply = NotAdmitted; bytes = b })) (record { reply = WrongLength; bytes = b }) in
    NotZero o.reply → o.bytes ≡ b
store_by true true new b h = absurd (done-not h)
store_by true false new b h = refl
store_by false y new b h = refl

store_kept : (s : Cpu) (b : List ℕ) → NotZero (store_block s b).reply → (store_block s b).bytes ≡ b
unfolding store_block
store_kept s b h = store_by (eqb (length b) 128) (admitted s) (block_of s) b h

load_kept : (f : List ℕ) (m : Storage) → NotZero (load_image f m).reply → (((load_image f m).cpu ≡ fresh) × ((load_image f m).storage ≡ m)) × ((load_image f m).budget ≡ 0)
unfolding load_image
load_kept f m = by (is_done (image_reply f m)) refl
  where
    by : (b : Bool) → is_done (image_reply f m) ≡ b
        → let i : Image = cond b (image (image_reply f m) (image_budget f) (image_state f) (image_bytes f)) (not_loaded (image_reply f m) m) in
        NotZero i.reply → ((i.cpu ≡ fresh) × (i.storage ≡ m)) × (i.budget ≡ 0)
    by true e h = absurd (done-not (rw (is-done (image_reply f m) e) at h))
    by false e h = ((refl, refl), refl)

pub refusals : Refusals
refusals = record {
  of_step = step_kept;
  of_perform = λ s c m. perform_kept s m c;
  of_exception = exception-kept;
  of_interrupt = interrupt-kept;
  of_rte = rte-kept;
  of_push32 = push_kept;
  of_pop32 = pop_kept;
  of_set_sr = set_sr-kept;
  of_ipl = λ s. told_zero s _;
  of_supervisor = λ s. told_zero s _;
  of_acc_get = acc_get_zero;
  of_acc_phys = acc_phys_zero;
  of_acc_set = acc_set_kept;
  of_set_acc_phys = set_acc_phys_kept;
  of_set_macsr = set_macsr-kept;
  of_read_block = read-fresh;
  of_store_block = store_kept;
  of_load_image = load_kept;
}
