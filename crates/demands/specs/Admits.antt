-- Every call given an admitted state returns one. Document: "A state is admitted when .. Every call keeps this."
--
-- AdmittedMeans says what an admitted state is. Assumes nothing.
use Prim.Native.Nat.{ℕ, zero, suc, ◌+◌, ◌^◌, ◌<◌}
use Rattle.std.specs.Prelude.{◌≡◌, refl, Bool, cond, ◌&&◌, List, ltb, leb, eqb, length, Result, Option, Ok, Err, Some, None}
use Rattle.std.proofs.Math.Bool.{true, false}
use Rattle.std.proofs.lemmas.Bool.{false≢true}
use Rattle.manual.specs.declared.Fault.{Fault}
use Rattle.manual.specs.declared.Cpu.{Cpu}
use Rattle.manual.specs.declared.Size.TheVariants.{Long}
use Rattle.manual.specs.declared.Reply.TheVariants.{Done, NotAdmitted, Stopped, OutOfRange, Masked, WrongVersion, WrongLength}
use Rattle.manual.specs.declared.Answer.{Answer}
use Rattle.manual.specs.declared.Action.{Action}
use Rattle.manual.specs.declared.Action.TheVariants.{Nothing, Store, StoreMany, LoadMany, Enter, Return, Status, Stop, PushStatus, Halt, SetOther, Accumulate, SetAcc, SetExt, SetMacsr, SetMask, CopyAcc, ClearAcc, MoveControl, Refuse}
use Rattle.manual.specs.declared.Change.{Change}
use Rattle.manual.specs.Word.{minus}
use Rattle.manual.specs.Registers.{address_of, with_address, applied}
use Rattle.manual.specs.Memory.{Storage, Memory, value_at, load, storing, access_many}
use Rattle.manual.specs.Emac.{acc_of}
use Rattle.manual.specs.EmacCalls.{acc_set_call, set_acc_phys_call, set_macsr_call}
use Rattle.manual.specs.Reply.{Outcome, unchanged, is_done}
use Rattle.manual.specs.Admitted.{status, admitted, emac_admitted}
use Rattle.manual.specs.Lent.{Lent, memory_of, lent_on, first_refusal, checked}
use Rattle.manual.specs.Exceptions.{set_sr, entered, level_taken, masked, exception, interrupt, rte, push32, not_popped, popped, pop32, set_sr_call}
use Rattle.manual.specs.Block.{fresh, says_admitted, state_at, not_read, read_block}
use Rattle.manual.specs.Image.{image_memory, image_state, image_reply, image_budget, image_bytes, Image, image, not_loaded, load_image}
use Rattle.instructions.specs.Perform.{status_pushed, act, perform}
use Rattle.instructions.specs.Step.{execute, step}
use Rattle.instructions.specs.Run.{RunOutcome, ended, after_one, steps, run}
use Rattle.state.specs.AdmittedLaws.{admitted-emac, registers-admitted, address-admitted, other-admitted, stopped_admitted, emac-admitted, control-admitted, applied-admitted, set_sr-admitted}
use Rattle.exceptions.specs.EntryAdmitted.{refusal-admitted, taking-admitted, entered-admitted, returned-admitted}
use Rattle.emac.specs.EmacKept as emac
use Rattle.calls_emac.specs.CallsKept as calls

pub record Admits : Type 0 where
  pub by-step : (s : Cpu) (l : Lent) → admitted s ≡ true → admitted (step s l).stepped.cpu ≡ true
  pub by-run : (budget : ℕ) (s : Cpu) (l : Lent) → admitted s ≡ true → admitted (run budget s l).ran.cpu ≡ true
  pub by-exception : (s : Cpu) (l : Lent) (vector pc : ℕ) (level : Option ℕ) → admitted s ≡ true → admitted (exception s l vector pc level).stepped.cpu ≡ true
  pub by-interrupt : (s : Cpu) (l : Lent) (vector level : ℕ) → admitted s ≡ true → admitted (interrupt s l vector level).stepped.cpu ≡ true
  pub by-rte : (s : Cpu) (l : Lent) → admitted s ≡ true → admitted (rte s l).stepped.cpu ≡ true
  pub by-push32 : (s : Cpu) (l : Lent) (v : ℕ) → admitted s ≡ true → admitted (push32 s l v).stepped.cpu ≡ true
  pub by-pop32 : (s : Cpu) (l : Lent) → admitted s ≡ true → admitted (pop32 s l).cpu ≡ true
  pub by-set_sr : (s : Cpu) (v : ℕ) → admitted s ≡ true → admitted (set_sr_call s v).cpu ≡ true
  pub by_acc_set : (s : Cpu) (i v : ℕ) → admitted s ≡ true → admitted (acc_set_call s i v).cpu ≡ true
  pub by_set_acc_phys : (s : Cpu) (i acc ext : ℕ) → acc < 2 ^ 32 → ext < 2 ^ 16 → admitted s ≡ true → admitted (set_acc_phys_call s i acc ext).cpu ≡ true
  pub by-set_macsr : (s : Cpu) (v : ℕ) → admitted s ≡ true → admitted (set_macsr_call s v).cpu ≡ true
  -- a read of a block or of a file is given no state, and a refused one returns the fresh one
  pub fresh-state : admitted fresh ≡ true
  pub by-read_block : (b : List ℕ) → admitted (read_block b).cpu ≡ true
  pub by-load_image : (f : List ℕ) (m : Storage) → admitted (load_image f m).cpu ≡ true

-- ---- the proofs

fresh-admitted : admitted fresh ≡ true
unfolding fresh admitted emac_admitted acc_of status
fresh-admitted = refl

either : (b : Bool) (x y : Outcome) → admitted x.stepped.cpu ≡ true → admitted y.stepped.cpu ≡ true → admitted (cond b x y).stepped.cpu ≡ true
either true x y p q = p
either false x y p q = q

-- an instruction's action
module _ (given s : Cpu) (m : Memory) (k : admitted given ≡ true) (h : admitted s ≡ true) where
  act-admitted : (a : Action) → admitted (act given s a m).stepped.cpu ≡ true
  unfolding status_pushed
  act-admitted Nothing = h
  act-admitted (Store a z v) = taking-admitted given m k (storing m a z) _ h
  act-admitted (StoreMany mask a) = taking-admitted given m k (access_many 16 m mask a) _ h
  act-admitted (LoadMany mask a) = taking-admitted given m k (access_many 16 m mask a) _ (registers-admitted _ s h)
  act-admitted (Enter vector pc) = entered-admitted given m k s None vector pc h
  act-admitted Return = returned-admitted given m k s h
  act-admitted (Status v) = set_sr-admitted v s (admitted-emac s h)
  act-admitted (Stop v) = stopped_admitted true (set_sr v s) (set_sr-admitted v s (admitted-emac s h))
  act-admitted (PushStatus v) =
      let sp : ℕ = minus (address_of s.r 7) 4 in
      let t : Cpu = with_address 7 sp s in
      taking-admitted given m k (storing m sp Long) _ (set_sr-admitted v t (admitted-emac t (address-admitted 7 sp s h)))
  act-admitted Halt = stopped_admitted true s h
  act-admitted (SetOther v) = other-admitted v s h
  act-admitted (Accumulate i scale sub x y) = emac-admitted _ s (emac.accumulate-kept s.emac (admitted-emac s h) i scale sub x y) h
  act-admitted (SetAcc i v) = emac-admitted _ s (emac.set_acc-kept s.emac (admitted-emac s h) i v) h
  act-admitted (SetExt i v) = emac-admitted _ s (emac.set_ext-kept s.emac (admitted-emac s h) i v) h
  act-admitted (SetMacsr v) = emac-admitted _ s (emac.set_macsr-kept s.emac (admitted-emac s h) v) h
  act-admitted (SetMask v) = emac-admitted _ s (emac.set_mask-kept s.emac (admitted-emac s h) v) h
  act-admitted (CopyAcc from to) = emac-admitted _ s (emac.copy_acc-kept s.emac (admitted-emac s h) from to) h
  act-admitted (ClearAcc i) = emac-admitted _ s (emac.clear_acc-kept s.emac (admitted-emac s h) i) h
  act-admitted (MoveControl writes c n) = control-admitted writes c n s h
  act-admitted (Refuse n) = refusal-admitted given n k

perform-admitted : (s : Cpu) (c : Change) (m : Memory) → admitted s ≡ true → admitted (perform s c m).stepped.cpu ≡ true
unfolding perform
perform-admitted s c m h = act-admitted s (applied s c) m h (applied-admitted s c h) c.action

module _ (s : Cpu) (l : Lent) (h : admitted s ≡ true) where
  abbrev m : Memory
  m = memory_of l

  checked-admitted : (o : Outcome) → admitted o.stepped.cpu ≡ true → admitted (checked s l o).stepped.cpu ≡ true
  checked-admitted o a = either (is_done (first_refusal s l)) o (unchanged s (first_refusal s l) m) a (refusal-admitted s (first_refusal s l) h)

  step-admitted : admitted (step s l).stepped.cpu ≡ true
  unfolding step
  step-admitted =
      checked-admitted _
      (either s.stopped (unchanged s Stopped m) _ (refusal-admitted s Stopped h)
      (perform-admitted s (execute s.r s.pc s.sr s.other s.emac m) m h))

  exception-admitted : (vector pc : ℕ) (level : Option ℕ) → admitted (exception s l vector pc level).stepped.cpu ≡ true
  unfolding exception
  exception-admitted vector pc level =
      checked-admitted _
      (either (level_taken level) (entered s s level vector pc m) (unchanged s OutOfRange m) (entered-admitted s m h s level vector pc h) (refusal-admitted s OutOfRange h))

  interrupt-admitted : (vector level : ℕ) → admitted (interrupt s l vector level).stepped.cpu ≡ true
  unfolding interrupt
  interrupt-admitted vector level =
      let i : Outcome = entered s s (Some level) vector s.pc m in
      checked-admitted _
      (either (ltb level 8) (cond (masked s.sr level) (unchanged s Masked m) i) (unchanged s OutOfRange m)
      (either (masked s.sr level) (unchanged s Masked m) i (refusal-admitted s Masked h) (entered-admitted s m h s (Some level) vector s.pc h))
      (refusal-admitted s OutOfRange h))

  rte-admitted : admitted (rte s l).stepped.cpu ≡ true
  unfolding rte
  rte-admitted = checked-admitted _ (returned-admitted s m h s h)

  push-admitted : (v : ℕ) → admitted (push32 s l v).stepped.cpu ≡ true
  unfolding push32
  push-admitted v =
      let sp : ℕ = minus (address_of s.r 7) 4 in
      checked-admitted _ (taking-admitted s m h (storing m sp Long) _ (address-admitted 7 sp s h))

  pop_admitted : admitted (pop32 s l).cpu ≡ true
  unfolding pop32
  pop_admitted = by (is_done (first_refusal s l)) (load m (address_of s.r 7) Long)
    where
      by : (b : Bool) (x : Result ℕ Fault) → admitted (cond b (popped s (address_of s.r 7) x) (not_popped s (first_refusal s l))).cpu ≡ true
      by true (Ok v) = address-admitted 7 _ s h
      by true (Err x) = h
      by false x = h

set_sr_call-admitted : (s : Cpu) (v : ℕ) → admitted s ≡ true → admitted (set_sr_call s v).cpu ≡ true
unfolding set_sr_call
set_sr_call-admitted s v h = by (admitted s)
  where
    by : (b : Bool) → admitted (cond {A = Answer} b (record { reply = Done; cpu = set_sr v s }) (record { reply = NotAdmitted; cpu = s })).cpu ≡ true
    by true = set_sr-admitted v s (admitted-emac s h)
    by false = h

steps-admitted : (budget : ℕ) (s : Cpu) (l : Lent) → admitted s ≡ true → admitted (steps budget s l).ran.cpu ≡ true
unfolding steps
steps-admitted zero s l h = h
steps-admitted (suc left) s l h =
    by (is_done (step s l).stepped.reply) (steps left (step s l).stepped.cpu (lent_on l (step s l).storage))
    (steps-admitted left (step s l).stepped.cpu (lent_on l (step s l).storage) (step-admitted s l h))
  where
    by : (b : Bool) (r : RunOutcome) → admitted r.ran.cpu ≡ true
        → admitted (cond b (after_one r) (ended (step s l).stepped.reply 0 (step s l).stepped.cpu (step s l).storage)).ran.cpu ≡ true
    by true r a = a
    by false r a = step-admitted s l h

run-admitted : (budget : ℕ) (s : Cpu) (l : Lent) → admitted s ≡ true → admitted (run budget s l).ran.cpu ≡ true
unfolding run
run-admitted budget s l h = by (is_done (first_refusal s l))
  where
    by : (b : Bool) → admitted (cond b (steps budget s l) (ended (first_refusal s l) 0 s l.storage)).ran.cpu ≡ true
    by true = steps-admitted budget s l h
    by false = h

-- a block that is read says an admitted state
first_of : (a b : Bool) → (a && b) ≡ true → a ≡ true
first_of true b h = refl
first_of false b h = h

says-admitted : (b : List ℕ) → says_admitted b ≡ true → admitted (state_at b) ≡ true
says-admitted b h = first_of (admitted (state_at b)) _ h

read-admitted : (b : List ℕ) → admitted (read_block b).cpu ≡ true
unfolding read_block
read-admitted b = by (ltb (length b) 5) (eqb (value_at b 0 1) 1) (eqb (length b) 128 && eqb (value_at b 1 4) 123) (says_admitted b) refl
  where
    by : (x y z w : Bool) → says_admitted b ≡ w
        → admitted (cond {A = Answer} x (not_read WrongLength) (cond y (cond z (cond w (record { reply = Done; cpu = state_at b }) (not_read NotAdmitted)) (not_read WrongLength)) (not_read WrongVersion))).cpu ≡ true
    by true y z w e = fresh-admitted
    by false true true true e = says-admitted b e
    by false true true false e = fresh-admitted
    by false true false w e = fresh-admitted
    by false false z w e = fresh-admitted

image-admitted : (f : List ℕ) (m : Storage) → is_done (image_reply f m) ≡ true → admitted (image_state f) ≡ true
unfolding image_reply
image-admitted f m = by (ltb (length f) 5) (eqb (value_at f 0 1) 1) (leb 14 l && (leb l (image_memory + 14) && (eqb (length f) (5 + l) && eqb (length m) image_memory))) (admitted (image_state f))
  where
    l : ℕ
    l = value_at f 1 4

    by : (x y z w : Bool) → is_done (cond x WrongLength (cond y (cond z (cond w Done NotAdmitted) WrongLength) WrongVersion)) ≡ true → w ≡ true
    by true y z w e = absurd (false≢true e)
    by false true true true e = refl
    by false true true false e = absurd (false≢true e)
    by false true false w e = absurd (false≢true e)
    by false false z w e = absurd (false≢true e)

load-admitted : (f : List ℕ) (m : Storage) → admitted (load_image f m).cpu ≡ true
unfolding load_image
load-admitted f m = by (is_done (image_reply f m)) refl
  where
    by : (b : Bool) → is_done (image_reply f m) ≡ b
        → admitted (cond {A = Image} b (image (image_reply f m) (image_budget f) (image_state f) (image_bytes f)) (not_loaded (image_reply f m) m)).cpu ≡ true
    by true e = image-admitted f m e
    by false e = fresh-admitted

pub admits : Admits
admits = record {
  by-step = step-admitted;
  by-run = run-admitted;
  by-exception = λ s l vector pc level h. exception-admitted s l h vector pc level;
  by-interrupt = λ s l vector level h. interrupt-admitted s l h vector level;
  by-rte = rte-admitted;
  by-push32 = λ s l v h. push-admitted s l h v;
  by-pop32 = pop_admitted;
  by-set_sr = set_sr_call-admitted;
  by_acc_set = λ s i v h. calls.acc_set_kept s h i v;
  by_set_acc_phys = λ s i acc ext a b h. calls.set_acc_phys_kept s h i acc ext a b;
  by-set_macsr = λ s v h. calls.set_macsr_call-kept s h v;
  fresh-state = fresh-admitted;
  by-read_block = read-admitted;
  by-load_image = load-admitted;
}
