-- Every call keeps what the types say of a state and of storage: each number fits its field.
--
-- Of a state (`Typed`): 16 registers, PC, the other stack pointer, VBR, CACR and MASK of 32 bits, SR of 16 bits, and four accumulators.
-- Of storage (`Bytes`): every number is below 256. So what the theorems ask of a state and of storage holds of every state to start from,
-- and again after every call. `Admits` has that MACSR and the accumulators' numbers stay in their ranges. Assumes nothing.
use Prim.Native.Nat.{ℕ, zero, suc, ◌+◌, ◌/◌, ◌%◌, ◌^◌}
use Rattle.std.specs.Prelude.{◌≡◌, Bool, cond, ◌&&◌, List, [], ◌∷◌, map, ltb, length, get_or, set, replicate, Result, Option, Ok, Err, Some, None}
use Rattle.std.proofs.Math.Path.{refl, ap}
use Rattle.std.proofs.Common.{◌∙◌}
use Rattle.std.proofs.Math.Bool.{true, false}
use native.Mathlib.Omega.{arith}
use Rattle.std.proofs.Math.Dec.{eqb}
use Rattle.std.proofs.Math.ListN.{length-set}
use Rattle.manual.specs.declared.Cpu.{Cpu}
use Rattle.manual.specs.declared.Emac.{Emac}
use Rattle.manual.specs.declared.Size.TheVariants.{Long}
use Rattle.manual.specs.declared.Reply.{Reply}
use Rattle.manual.specs.declared.Reply.TheVariants.{Stopped, OutOfRange, Masked}
use Rattle.manual.specs.declared.Fault.{Fault}
use Rattle.manual.specs.declared.Answer.{Answer}
use Rattle.manual.specs.declared.Popped.{Popped}
use Rattle.manual.specs.declared.Write.{Write}
use Rattle.manual.specs.declared.Action.{Action}
use Rattle.manual.specs.declared.Action.TheVariants.{Nothing, Store, StoreMany, LoadMany, Enter, Return, Status, Stop, PushStatus, Halt, SetOther, Accumulate, SetAcc, SetExt, SetMacsr, SetMask, CopyAcc, ClearAcc, MoveControl, Refuse}
use Rattle.manual.specs.declared.Change.{Change}
use Rattle.manual.specs.declared.ControlRegister.{ControlRegister}
use Rattle.manual.specs.declared.ControlRegister.TheVariants.{Cacr, Vbr}
use Rattle.manual.specs.Word.{plus, minus}
use Rattle.manual.specs.Registers.{address_of, general, write_general, with_address, with_pc, with_parts, with_emac, with_vbr, with_cacr, written, coded, applied}
use Rattle.manual.specs.Control.{movec_read, movec_write, control_moved}
use Rattle.manual.specs.Memory.{Storage, Memory, storage_of, value_at, access, load, number_in, number_at, storing, access_many, loaded_many}
use Rattle.manual.specs.Emac.{stays_at_limit, with_acc, with_sum, accumulate, set_macsr, set_mask, set_acc, copy_acc, clear_acc, with_ext, set_ext}
use Rattle.manual.specs.Admitted.{status, admitted}
use Rattle.manual.specs.Reply.{Outcome, unchanged, refusal, fault_reply, is_done, loading}
use Rattle.manual.specs.Lent.{Lent, memory_of, first_refusal, checked}
use Rattle.manual.specs.Differences.{vector_place}
use Rattle.manual.specs.Exceptions.{set_sr, handler_sr, pc_place, frame_place, handler_state, entered, return_state, returned, level_taken, masked, exception, interrupt, rte, push32, popped, pop32, set_sr_call}
use Rattle.manual.specs.EmacCalls.{acc_changed, acc_set_call, set_acc_phys_call, set_macsr_call}
use Rattle.manual.specs.Block.{fresh, version_at, length_at, head_bytes, block_bytes, block_rest, registers_at, pc_at, sr_at, other_at, vbr_at, cacr_at, mask_at, longs_at, emac_at, state_at, says_admitted, read_block}
use Rattle.manual.specs.Image.{Image, start_at, stack_at, status_at, image_state, image_reply, load_image}
use Rattle.instructions.specs.Perform.{status_pushed, act, perform}
use Rattle.instructions.specs.Step.{execute, step}
use Rattle.instructions.specs.Run.{run}
use Rattle.word.specs.WordLaws.{plus-below, minus-below}
use Rattle.memory.specs.MemoryLaws.{value_lt}
use Rattle.state.specs.AdmittedLaws.{admitted-emac}
use Rattle.state.specs.FirstLaws.{first-admitted}
use Rattle.emac.specs.EmacKept.{macsr-small}
use Rattle.block.specs.Typed.{Typed}
use Rattle.demands.specs.Exact.{Bytes, Ready}
use Rattle.demands.specs.AccessLaws.{accessing-all, taking-all}
use Rattle.demands.specs.Effects.{handed}
use Rattle.demands.specs.EntryLaws.{swaps}
use Rattle.demands.specs.ValueLaws.{set_below, store_bytes, status-word, all_typed, registers-typed, pc-typed, sr-typed, stopped_typed, address-typed, other-typed, emac-typed, controls_typed, after-typed}
use Rattle.demands.specs.Steps.{Steps, none, one_more}
use Rattle.demands.specs.Runs.{stored-kept, entered-kept, returned-kept, step-storage, runs}
use Rattle.demands.specs.FitLaws.{either, IsLong, Longs, other_in, FitsLong, GotBelow, load_below, written-longs}
use Rattle.demands.specs.BodyTyped.{execute-fits}

pub record KeepsTyped : Type 0 where
  -- a step
  pub by-step : (s : Cpu) (l : Lent) → Typed s → Bytes l.storage → Typed (step s l).stepped.cpu
  -- a run of any budget
  pub by-run : (budget : ℕ) (s : Cpu) (l : Lent) → Typed s → Bytes l.storage → Typed (run budget s l).ran.cpu
  -- an exception of any vector, at any level, with any number as the PC that its frame gets
  pub by-exception : (s : Cpu) (l : Lent) (vector pc : ℕ) (level : Option ℕ) → Typed s → Bytes l.storage → Typed (exception s l vector pc level).stepped.cpu
  -- an interrupt
  pub by-interrupt : (s : Cpu) (l : Lent) (vector level : ℕ) → Typed s → Bytes l.storage → Typed (interrupt s l vector level).stepped.cpu
  -- a return
  pub by-rte : (s : Cpu) (l : Lent) → Typed s → Bytes l.storage → Typed (rte s l).stepped.cpu
  -- a push and a pop, which move A7, whatever storage holds
  pub by-push32 : (s : Cpu) (l : Lent) (v : ℕ) → Typed s → Typed (push32 s l v).stepped.cpu
  pub by-pop32 : (s : Cpu) (l : Lent) → Typed s → Typed (pop32 s l).cpu
  -- a new status register, of any number
  pub by-set_sr : (s : Cpu) (v : ℕ) → Typed s → Typed (set_sr_call s v).cpu
  -- the calls on the unit, with any numbers
  pub by_acc_set : (s : Cpu) (i v : ℕ) → Typed s → Typed (acc_set_call s i v).cpu
  pub by_set_acc_phys : (s : Cpu) (i acc ext : ℕ) → Typed s → Typed (set_acc_phys_call s i acc ext).cpu
  pub by-set_macsr : (s : Cpu) (v : ℕ) → Typed s → Typed (set_macsr_call s v).cpu
  -- the states to start from: the fresh one, the one that a block says, and an image's, whether taken or refused
  pub fresh-state : Typed fresh
  pub by-read_block : (b : List ℕ) → Bytes b → Typed (read_block b).cpu
  pub by-load_image : (f : List ℕ) (m : Storage) → Bytes f → Typed (load_image f m).cpu

-- every call that may store leaves bytes in storage, whatever the state
pub record KeepsBytes : Type 0 where
  -- a step, and a run of any budget
  pub by-step : (s : Cpu) (l : Lent) → Bytes l.storage → Bytes (step s l).storage
  pub by-run : (budget : ℕ) (s : Cpu) (l : Lent) → Bytes l.storage → Bytes (run budget s l).storage
  -- an entry, which stores a frame, and a return, which stores nothing
  pub by-exception : (s : Cpu) (l : Lent) (vector pc : ℕ) (level : Option ℕ) → Bytes l.storage → Bytes (exception s l vector pc level).storage
  pub by-interrupt : (s : Cpu) (l : Lent) (vector level : ℕ) → Bytes l.storage → Bytes (interrupt s l vector level).storage
  pub by-rte : (s : Cpu) (l : Lent) → Bytes l.storage → Bytes (rte s l).storage
  -- a push of any number
  pub by-push32 : (s : Cpu) (l : Lent) (v : ℕ) → Bytes l.storage → Bytes (push32 s l v).storage

-- ---- the proofs

abbrev KeptTyped : Outcome → Type 0
KeptTyped o = Typed o.stepped.cpu

refusal-typed : (given : Cpu) (n : Reply) → Typed given → Typed (refusal given n).cpu
unfolding refusal
refusal-typed given n t = t

pub set_sr-typed : (v : ℕ) (s : Cpu) → Typed s → Typed (set_sr v s)
unfolding set_sr
set_sr-typed v s t = after-typed s t (swaps v s) (status v) (status-word v)

-- ---- the unit: MASK is a long, and there are four accumulators

record UnitFits (e : Emac) : Type 0 where
  mask_fits : IsLong e.mask
  four_fit : length e.acc ≡ 4

unit_of : (s : Cpu) → Typed s → UnitFits s.emac
unit_of s t = record { mask_fits = t.mask-long; four_fit = t.four }

unit-typed : (s : Cpu) → Typed s → (e : Emac) → UnitFits e → Typed (with_emac e s)
unit-typed s t e u = emac-typed s t e u.mask_fits u.four_fit

length_map : (f : ℕ → ℕ) (l : List ℕ) → length (map f l) ≡ length l
length_map f [] = refl
length_map f (x ∷ l) = ap suc (length_map f l)

module _ (e : Emac) (u : UnitFits e) where
  with_acc-fits : (i macsr a : ℕ) → UnitFits (with_acc i macsr a e)
  unfolding with_acc
  with_acc-fits i macsr a = record { mask_fits = u.mask_fits; four_fit = length-set e.acc (i % 4) a ∙ u.four_fit }

  accumulate-fits : (i scale : ℕ) (sub : Bool) (x y : ℕ) → UnitFits (accumulate e i scale sub x y)
  unfolding accumulate with_sum
  accumulate-fits i scale sub x y = either UnitFits (stays_at_limit e.macsr i) e _ u (with_acc-fits i _ _)

  set_acc-fits : (i v : ℕ) → UnitFits (set_acc e i v)
  unfolding set_acc
  set_acc-fits i v = with_acc-fits i _ _

  copy_acc-fits : (from to : ℕ) → UnitFits (copy_acc e from to)
  unfolding copy_acc
  copy_acc-fits from to = with_acc-fits to _ _

  clear_acc-fits : (i : ℕ) → UnitFits (clear_acc e i)
  unfolding clear_acc
  clear_acc-fits i = with_acc-fits i _ _

  with_ext-fits : (fi : Bool) (i ext : ℕ) → UnitFits (with_ext fi i ext e)
  unfolding with_ext
  with_ext-fits fi i ext = with_acc-fits i _ _

  set_macsr-fits : (v : ℕ) → UnitFits (set_macsr e v)
  unfolding set_macsr
  set_macsr-fits v = record { mask_fits = u.mask_fits; four_fit = length_map _ e.acc ∙ u.four_fit }

  set_mask-fits : (v : ℕ) → UnitFits (set_mask e v)
  unfolding set_mask
  set_mask-fits v = record { mask_fits = omega arith; four_fit = u.four_fit }

set_ext-fits : (e : Emac) → UnitFits e → (i v : ℕ) → UnitFits (set_ext e i v)
unfolding set_ext
set_ext-fits e u i v = with_ext-fits _ (with_ext-fits e u _ i _) _ (i + 1) _

-- ---- the registers after a change

length_written : (w : Write) (g : List ℕ) → length (written w g) ≡ length g
unfolding written
length_written w g = either (λ x. length x ≡ length g) (ltb w.to 16) (set g w.to w.value) g (length-set g w.to w.value) refl

-- the registers that an entry is made from: those after an operand's move
pub handed-typed : (s : Cpu) (w : Write) (pc : ℕ) → Typed s → IsLong w.value → IsLong pc → Typed (handed w pc s)
unfolding with_parts
handed-typed s w pc t v p =
    all_typed s t (written w s.r) pc _ _ _ _ (length_written w s.r ∙ t.sixteen) (written-longs w s.r v t.registers) p t.sr-word t.other-long t.mask-long t.four

applied-typed : (s : Cpu) (c : Change) → Typed s → FitsLong c → Typed (applied s c)
unfolding applied with_parts coded
applied-typed s c t f =
    let g : List ℕ = written c.first s.r in
    all_typed s t (written c.second g) c.pc _ _ _ _
    (length_written c.second g ∙ length_written c.first s.r ∙ t.sixteen)
    (written-longs c.second g f.second_fits (written-longs c.first s.r f.first_fits t.registers))
    f.pc-fits (omega (arith, t.sr-word)) t.other-long t.mask-long t.four

-- ---- MOVEC

module _ (s : Cpu) (t : Typed s) where
  control-long : (c : ControlRegister) → IsLong (movec_read c s)
  unfolding movec_read
  control-long Cacr = t.cacr-long
  control-long Vbr = t.vbr-long

  control-typed : (writes : Bool) (c : ControlRegister) (n : ℕ) → Typed (control_moved writes c n s)
  unfolding control_moved movec_write with_vbr with_cacr general write_general
  control-typed true Cacr n = controls_typed s t s.vbr _ t.vbr-long (t.registers (n % 16))
  control-typed true Vbr n = controls_typed s t _ s.cacr (omega (arith, t.registers (n % 16))) t.cacr-long
  control-typed false c n =
      let w : Write = write_general n (movec_read c s) in
      registers-typed s t _ (length_written w s.r ∙ t.sixteen) (written-longs w s.r (control-long c) t.registers)

-- 16 registers, each of them a long
record Loaded (g : List ℕ) : Type 0 where
  as_many : length g ≡ 16
  longs : Longs g

-- ---- what is done of it

module _ (m : Memory) (all : Bytes (storage_of m)) where
  number-long : (a : ℕ) → IsLong (number_at m a Long)
  number-long a = by (load m a Long) (load_below m all a Long)
    where
      by : (x : Result ℕ Fault) → GotBelow (2 ^ 32) x → IsLong (number_in x)
      by (Ok v) h = h
      by (Err x) h = omega arith

  loaded-many : (left n mask at : ℕ) (g : List ℕ) → Loaded g → Loaded (loaded_many left m n mask at g)
  unfolding loaded_many
  loaded-many zero n mask at g h = h
  loaded-many (suc left) n mask at g h =
      let v : ℕ = number_at m at Long in
      either Loaded (eqb (mask % 2) 1) _ _
      (loaded-many left (n + 1) (mask / 2) (plus at 4) (set g n v)
      (record { as_many = length-set g n v ∙ h.as_many; longs = set_below g n v (2 ^ 32) h.longs (number-long at) }))
      (loaded-many left (n + 1) (mask / 2) at g h)

  module _ (given : Cpu) (kept : Typed given) where
    refused-typed : (x : Fault) → KeptTyped (unchanged given (fault_reply x) m)
    refused-typed x = refusal-typed given (fault_reply x) kept

    loading-typed : (x : Result ℕ Fault) (f : ℕ → Outcome) → GotBelow (2 ^ 32) x → ((v : ℕ) → IsLong v → KeptTyped (f v)) → KeptTyped (loading given m x f)
    loading-typed (Ok v) f h k = k v h
    loading-typed (Err x) f h k = refused-typed x

    long-typed : (a : ℕ) (f : ℕ → Outcome) → ((v : ℕ) → IsLong v → KeptTyped (f v)) → KeptTyped (loading given m (load m a Long) f)
    long-typed a f h = loading-typed (load m a Long) f (load_below m all a Long) h

    entered-typed : (s : Cpu) (level : Option ℕ) (vector pc : ℕ) → Typed s → KeptTyped (entered given s level vector pc m)
    unfolding entered handler_state
    entered-typed s level vector pc h =
        let t : Cpu = set_sr (handler_sr level s.sr) s in
        let sp : ℕ = address_of t.r 7 in
        accessing-all KeptTyped given m refused-typed (access m (pc_place sp) 4) _ λ high.
        accessing-all KeptTyped given m refused-typed (access m (frame_place sp) 4) _ λ low.
        accessing-all KeptTyped given m refused-typed (access m (vector_place s.vbr vector) 4) _ λ table.
        stopped_typed _
        (pc-typed _ (address-typed t (set_sr-typed _ s h) (frame_place sp) (minus-below _ 4)) _
        (value_lt _ table 4 (store_bytes _ low 4 _ (store_bytes (storage_of m) high 4 pc all))))
        false

    returned-typed : (s : Cpu) → Typed s → KeptTyped (returned given s m)
    unfolding returned return_state
    returned-typed s h =
        let sp : ℕ = address_of s.r 7 in
        long-typed sp _ λ w l.
        long-typed (plus sp 4) _ λ pc k.
        pc-typed _ (set_sr-typed w _ (address-typed s h _ (plus-below sp _))) pc k

    -- s are the registers after the instruction's own changes
    module _ (s : Cpu) (h : Typed s) where
      act-typed : (a : Action) → IsLong (other_in a) → KeptTyped (act given s a m)
      unfolding status_pushed
      act-typed Nothing o = h
      act-typed (Store a z v) o = taking-all KeptTyped given m refused-typed (storing m a z) _ h
      act-typed (StoreMany mask a) o = taking-all KeptTyped given m refused-typed (access_many 16 m mask a) _ h
      act-typed (LoadMany mask a) o =
          let g : Loaded (loaded_many 16 m 0 mask a s.r) = loaded-many 16 0 mask a s.r (record { as_many = h.sixteen; longs = h.registers }) in
          taking-all KeptTyped given m refused-typed (access_many 16 m mask a) _ (registers-typed s h _ g.as_many g.longs)
      act-typed (Enter vector pc) o = entered-typed s None vector pc h
      act-typed Return o = returned-typed s h
      act-typed (Status v) o = set_sr-typed v s h
      act-typed (Stop v) o = stopped_typed _ (set_sr-typed v s h) true
      act-typed (PushStatus v) o =
          let sp : ℕ = minus (address_of s.r 7) 4 in
          taking-all KeptTyped given m refused-typed (storing m sp Long) _ (set_sr-typed v _ (address-typed s h sp (minus-below _ 4)))
      act-typed Halt o = stopped_typed s h true
      act-typed (SetOther v) o = other-typed s h v o
      act-typed (Accumulate i scale sub x y) o = unit-typed s h _ (accumulate-fits s.emac (unit_of s h) i scale sub x y)
      act-typed (SetAcc i v) o = unit-typed s h _ (set_acc-fits s.emac (unit_of s h) i v)
      act-typed (SetExt i v) o = unit-typed s h _ (set_ext-fits s.emac (unit_of s h) i v)
      act-typed (SetMacsr v) o = unit-typed s h _ (set_macsr-fits s.emac (unit_of s h) v)
      act-typed (SetMask v) o = unit-typed s h _ (set_mask-fits s.emac (unit_of s h) v)
      act-typed (CopyAcc from to) o = unit-typed s h _ (copy_acc-fits s.emac (unit_of s h) from to)
      act-typed (ClearAcc i) o = unit-typed s h _ (clear_acc-fits s.emac (unit_of s h) i)
      act-typed (MoveControl writes c n) o = control-typed s h writes c n
      act-typed (Refuse n) o = refusal-typed given n kept

perform-typed : (s : Cpu) (c : Change) (m : Memory) → Bytes (storage_of m) → Typed s → FitsLong c → KeptTyped (perform s c m)
unfolding perform
perform-typed s c m all t f = act-typed m all s t (applied s c) (applied-typed s c t f) c.action f.other_fits

-- ---- the calls

module _ (s : Cpu) (l : Lent) (t : Typed s) where
  abbrev m : Memory
  m = memory_of l

  checked-typed : (o : Outcome) → (Ready s l → KeptTyped o) → KeptTyped (checked s l o)
  checked-typed o h = by (is_done (first_refusal s l)) refl
    where
      by : (b : Bool) → is_done (first_refusal s l) ≡ b → KeptTyped (cond b o (unchanged s (first_refusal s l) m))
      by true e = h e
      by false e = refusal-typed s _ t

  push-typed : (v : ℕ) → KeptTyped (push32 s l v)
  unfolding push32
  push-typed v =
      let sp : ℕ = minus (address_of s.r 7) 4 in
      checked-typed _ (λ r. taking-all KeptTyped s m (λ x. refusal-typed s _ t) (storing m sp Long) _ (address-typed s t sp (minus-below _ 4)))

  module _ (all : Bytes l.storage) where
    step_typed : KeptTyped (step s l)
    unfolding step
    step_typed =
        checked-typed _
        (λ r. either KeptTyped s.stopped (unchanged s Stopped m) _ (refusal-typed s Stopped t)
        (perform-typed s (execute s.r s.pc s.sr s.other s.emac m) m all t
        (execute-fits s.r s.pc s.sr s.other s.emac m t.registers t.pc-long t.other-long
        (omega (arith, macsr-small s.emac (admitted-emac s (first-admitted s l r))))
        t.mask-long all)))

    exception-typed : (vector pc : ℕ) (level : Option ℕ) → KeptTyped (exception s l vector pc level)
    unfolding exception
    exception-typed vector pc level =
        checked-typed _
        (λ r. either KeptTyped (level_taken level) (entered s s level vector pc m) (unchanged s OutOfRange m) (entered-typed m all s t s level vector pc t) (refusal-typed s OutOfRange t))

    interrupt-typed : (vector level : ℕ) → KeptTyped (interrupt s l vector level)
    unfolding interrupt
    interrupt-typed vector level =
        let i : Outcome = entered s s (Some level) vector s.pc m in
        checked-typed _
        (λ r. either KeptTyped (ltb level 8) (cond (masked s.sr level) (unchanged s Masked m) i) (unchanged s OutOfRange m)
        (either KeptTyped (masked s.sr level) (unchanged s Masked m) i (refusal-typed s Masked t) (entered-typed m all s t s (Some level) vector s.pc t))
        (refusal-typed s OutOfRange t))

    rte-typed : KeptTyped (rte s l)
    unfolding rte
    rte-typed = checked-typed _ (λ r. returned-typed m all s t s t)

-- any number of steps, each of them done
steps-typed : {n : ℕ} {s s' : Cpu} {l l' : Lent} → Steps n s l s' l' → Typed s → Bytes l.storage → Typed s'
steps-typed none t all = t
steps-typed (one_more {s = s} {l = l} e rest) t all = steps-typed rest (step_typed s l t all) (step-storage Bytes store_bytes s l all)

-- ---- the calls with no memory

abbrev AnswerTyped : Answer → Type 0
AnswerTyped a = Typed a.cpu

module _ (s : Cpu) (t : Typed s) where
  pop_typed : (l : Lent) → Typed (pop32 s l).cpu
  unfolding pop32
  pop_typed l = either (λ (p : Popped). Typed p.cpu) (is_done (first_refusal s l)) _ _ (by (load (memory_of l) (address_of s.r 7) Long)) t
    where
      by : (x : Result ℕ Fault) → Typed (popped s (address_of s.r 7) x).cpu
      by (Ok v) = address-typed s t _ (plus-below _ 4)
      by (Err x) = t

  set_sr_call_lem : (v : ℕ) → AnswerTyped (set_sr_call s v)
  unfolding set_sr_call
  set_sr_call_lem v = either AnswerTyped (admitted s) _ _ (set_sr-typed v s t) t

  acc-changed : (i : ℕ) (e : Emac) → UnitFits e → AnswerTyped (acc_changed s i e)
  acc-changed i e u = either AnswerTyped (admitted s) _ _ (either AnswerTyped (ltb i 4) _ _ (unit-typed s t e u) t) t

  acc_set : (i v : ℕ) → AnswerTyped (acc_set_call s i v)
  unfolding acc_set_call
  acc_set i v = acc-changed i _ (with_acc-fits s.emac (unit_of s t) i _ _)

  set_acc_phys : (i acc ext : ℕ) → AnswerTyped (set_acc_phys_call s i acc ext)
  unfolding set_acc_phys_call
  set_acc_phys i acc ext = acc-changed i _ (with_acc-fits s.emac (unit_of s t) i _ _)

  set_macsr_call_lem : (v : ℕ) → AnswerTyped (set_macsr_call s v)
  unfolding set_macsr_call
  set_macsr_call_lem v = either AnswerTyped (admitted s) _ _ (unit-typed s t _ (set_macsr-fits s.emac (unit_of s t) v)) t

-- ---- the states to start from

zeros-below : (n i : ℕ) → IsLong (get_or (replicate n 0) i 0)
zeros-below zero i = omega arith
zeros-below (suc n) zero = omega arith
zeros-below (suc n) (suc i) = zeros-below n i

fresh-typed : Typed fresh
unfolding fresh
fresh-typed = record {
  sixteen = refl;
  registers = zeros-below 16;
  pc-long = omega arith;
  sr-word = omega arith;
  other-long = omega arith;
  vbr-long = omega arith;
  cacr-long = omega arith;
  mask-long = omega arith;
  four = refl;
}

module _ (b : List ℕ) (all : Bytes b) where
  longs-below : (count a : ℕ) → Longs (longs_at b count a)
  unfolding longs_at
  longs-below zero a i = omega arith
  longs-below (suc count) a zero = value_lt b a 4 all
  longs-below (suc count) a (suc i) = longs-below count (a + 4) i

  length_longs : (count a : ℕ) → length (longs_at b count a) ≡ count
  unfolding longs_at
  length_longs zero a = refl
  length_longs (suc count) a = ap suc (length_longs count (a + 4))

  state-typed : Typed (state_at b)
  unfolding state_at emac_at
  state-typed = record {
    sixteen = length_longs 16 registers_at;
    registers = longs-below 16 registers_at;
    pc-long = value_lt b pc_at 4 all;
    sr-word = value_lt b sr_at 2 all;
    other-long = value_lt b other_at 4 all;
    vbr-long = value_lt b vbr_at 4 all;
    cacr-long = value_lt b cacr_at 4 all;
    mask-long = value_lt b mask_at 4 all;
    four = refl;
  }

  block-typed : AnswerTyped (read_block b)
  unfolding read_block
  block-typed =
      either AnswerTyped (ltb (length b) head_bytes) _ _ fresh-typed
      (either AnswerTyped (eqb (value_at b version_at 1) 1) _ _
      (either AnswerTyped (eqb (length b) block_bytes && eqb (value_at b length_at 4) block_rest) _ _
      (either AnswerTyped (says_admitted b) _ _ state-typed fresh-typed)
      fresh-typed)
      fresh-typed)

  image-typed : (x : Storage) → Typed (load_image b x).cpu
  unfolding load_image image_state
  image-typed x =
      let a : Typed (with_address 7 (value_at b stack_at 4) fresh) = address-typed fresh fresh-typed _ (value_lt b stack_at 4 all) in
      let t : Typed (with_pc (value_at b start_at 4) (with_address 7 (value_at b stack_at 4) fresh)) = pc-typed _ a _ (value_lt b start_at 4 all) in
      either (λ (i : Image). Typed i.cpu) (is_done (image_reply b x)) _ _ (sr-typed _ t _ (value_lt b status_at 2 all)) fresh-typed

pub keeps_typed : KeepsTyped
keeps_typed = record {
  by-step = step_typed;
  by-run = λ budget s l t all. steps-typed (runs.that_many budget s l) t all;
  by-exception = λ s l vector pc level t all. exception-typed s l t all vector pc level;
  by-interrupt = λ s l vector level t all. interrupt-typed s l t all vector level;
  by-rte = rte-typed;
  by-push32 = λ s l v t. push-typed s l t v;
  by-pop32 = λ s l t. pop_typed s t l;
  by-set_sr = λ s v t. set_sr_call_lem s t v;
  by_acc_set = λ s i v t. acc_set s t i v;
  by_set_acc_phys = λ s i acc ext t. set_acc_phys s t i acc ext;
  by-set_macsr = λ s v t. set_macsr_call_lem s t v;
  fresh-state = fresh-typed;
  by-read_block = block-typed;
  by-load_image = λ f m all. image-typed f all m;
}

-- ---- storage

abbrev KeptBytes : Outcome → Type 0
KeptBytes o = Bytes o.storage

module _ (s : Cpu) (l : Lent) (all : Bytes l.storage) where
  checked-bytes : (o : Outcome) → KeptBytes o → KeptBytes (checked s l o)
  checked-bytes o h = either KeptBytes (is_done (first_refusal s l)) o (unchanged s (first_refusal s l) (memory_of l)) h all

  entered-bytes : (level : Option ℕ) (vector pc : ℕ) → KeptBytes (entered s s level vector pc (memory_of l))
  entered-bytes level vector pc = entered-kept Bytes store_bytes s (memory_of l) all s level vector pc

  exception-bytes : (vector pc : ℕ) (level : Option ℕ) → KeptBytes (exception s l vector pc level)
  unfolding exception
  exception-bytes vector pc level = checked-bytes _ (either KeptBytes (level_taken level) _ (unchanged s OutOfRange (memory_of l)) (entered-bytes level vector pc) all)

  interrupt-bytes : (vector level : ℕ) → KeptBytes (interrupt s l vector level)
  unfolding interrupt
  interrupt-bytes vector level =
      checked-bytes _
      (either KeptBytes (ltb level 8) _ (unchanged s OutOfRange (memory_of l))
      (either KeptBytes (masked s.sr level) (unchanged s Masked (memory_of l)) _ all (entered-bytes (Some level) vector s.pc))
      all)

  rte-bytes : KeptBytes (rte s l)
  unfolding rte
  rte-bytes = checked-bytes _ (returned-kept Bytes store_bytes s (memory_of l) all s)

  push-bytes : (v : ℕ) → KeptBytes (push32 s l v)
  unfolding push32
  push-bytes v =
      let sp : ℕ = minus (address_of s.r 7) 4 in
      checked-bytes _ (taking-all KeptBytes s (memory_of l) (λ x. all) (storing (memory_of l) sp Long) _ (stored-kept Bytes store_bytes (memory_of l) sp Long v all))

pub keeps_bytes : KeepsBytes
keeps_bytes = record {
  by-step = step-storage Bytes store_bytes;
  by-run = runs.still_bytes;
  by-exception = λ s l vector pc level all. exception-bytes s l all vector pc level;
  by-interrupt = λ s l vector level all. interrupt-bytes s l all vector level;
  by-rte = rte-bytes;
  by-push32 = λ s l v all. push-bytes s l all v;
}
