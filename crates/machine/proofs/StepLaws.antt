-- A step is a run of one: a step that is refused enters no vector. Assumes nothing.
use Rattle.std.specs.Prelude.{Result, Option, Ok, Err, None}
use Rattle.manual.specs.declared.Fault.{Fault}
use Prim.Native.Nat.{ℕ}
use mathlib.Core.Path.{◌≡◌, refl, sym, ap, ◌∙◌}
use mathlib.Core.Bool.{Bool, true, false, cond, false≢true}
use Rattle.manual.specs.declared.Cpu.{Cpu}
use Rattle.manual.specs.declared.Size.TheVariants.{Long}
use Rattle.manual.specs.declared.Reply.{Reply}
use Rattle.manual.specs.declared.Reply.TheVariants.{Done, Stopped}
use Rattle.manual.specs.declared.Action.{Action}
use Rattle.manual.specs.declared.Action.TheVariants.{Nothing, Store, StoreMany, LoadMany, Enter, Return, Status, Stop, PushStatus, Halt, SetOther, Accumulate, SetAcc, SetExt, SetMacsr, SetMask, CopyAcc, ClearAcc, MoveControl, Refuse}
use Rattle.manual.specs.declared.Change.{Change}
use Rattle.manual.specs.Word.{plus, minus}
use Rattle.manual.specs.Registers.{address_of, applied}
use Rattle.manual.specs.Memory.{Storage, Memory, access, load, storing, access_many}
use Rattle.manual.specs.Reply.{Outcome, outcome, unchanged, refusal, is_done, accessing, loading, taking}
use Rattle.manual.specs.Lent.{Lent, memory_of, first_refusal}
use Rattle.manual.specs.Differences.{vector_place}
use Rattle.manual.specs.Exceptions.{set_sr, handler_sr, pc_place, frame_place, entered, returned}
use Rattle.instructions.specs.Perform.{status_pushed, act, perform}
use Rattle.instructions.specs.Step.{execute, step}
use Rattle.state.specs.ReplyLaws.{done-is}
use Rattle.machine.specs.declared.Progress.{Progress}
use Rattle.machine.specs.Advance.{Advance, advance, ended_as, progress}

-- where it was refused, it says no vector
abbrev NoVector : Outcome → Type 0
NoVector o = is_done o.stepped.reply ≡ false → o.stepped.vector ≡ 0

by_cond : (b : Bool) (x y : Outcome) → NoVector x → NoVector y → NoVector (cond b x y)
by_cond true x y p q = p
by_cond false x y p q = q

refused : (s : Cpu) (n : Reply) (m : Memory) → NoVector (unchanged s n m)
unfolding refusal
refused s n m h = refl

-- what was done was not refused
done : (vector : ℕ) → true ≡ false → vector ≡ 0
done vector h = absurd (false≢true (sym h))

module _ (given : Cpu) (m : Memory) where
  by-access : (x : Result ℕ Fault) (f : ℕ → Outcome) → ((at : ℕ) → NoVector (f at)) → NoVector (accessing given m x f)
  by-access (Ok at) f p = p at
  by-access (Err x) f p = refused given _ m

  by-load : (x : Result ℕ Fault) (f : ℕ → Outcome) → ((v : ℕ) → NoVector (f v)) → NoVector (loading given m x f)
  by-load (Ok v) f p = p v
  by-load (Err x) f p = refused given _ m

  by-store : (x : Result Unit Fault) (o : Outcome) → NoVector o → NoVector (taking given m x o)
  by-store (Ok tt) o p = p
  by-store (Err x) o p = refused given _ m

  of_entry : (s : Cpu) (level : Option ℕ) (n pc : ℕ) → NoVector (entered given s level n pc m)
  unfolding entered
  of_entry s level n pc =
      let sp : ℕ = address_of (set_sr (handler_sr level s.sr) s).r 7 in
      by-access (access m (pc_place sp) 4) _ λ high.
      by-access (access m (frame_place sp) 4) _ λ low.
      by-access (access m (vector_place s.vbr n) 4) _ λ table.
      done n

  of_return : (s : Cpu) → NoVector (returned given s m)
  unfolding returned
  of_return s =
      let sp : ℕ = address_of s.r 7 in
      by-load (load m sp Long) _ λ w.
      by-load (load m (plus sp 4) Long) _ λ pc.
      done 0

  of_push : (s : Cpu) (v : ℕ) → NoVector (status_pushed given s v m)
  unfolding status_pushed
  of_push s v = by-store (storing m (minus (address_of s.r 7) 4) Long) _ (done 0)

  of_action : (s : Cpu) (a : Action) → NoVector (act given s a m)
  of_action s Nothing = λ h. refl
  of_action s (Store a z v) = by-store (storing m a z) _ (done 0)
  of_action s (StoreMany mask a) = by-store (access_many 16 m mask a) _ (done 0)
  of_action s (LoadMany mask a) = by-store (access_many 16 m mask a) _ (done 0)
  of_action s (Enter vector pc) = of_entry s None vector pc
  of_action s Return = of_return s
  of_action s (Status v) = λ h. refl
  of_action s (Stop v) = λ h. refl
  of_action s (PushStatus v) = of_push s v
  of_action s Halt = λ h. refl
  of_action s (SetOther v) = λ h. refl
  of_action s (Accumulate i scale sub x y) = λ h. refl
  of_action s (SetAcc i v) = λ h. refl
  of_action s (SetExt i v) = λ h. refl
  of_action s (SetMacsr v) = λ h. refl
  of_action s (SetMask v) = λ h. refl
  of_action s (CopyAcc from to) = λ h. refl
  of_action s (ClearAcc i) = λ h. refl
  of_action s (MoveControl writes c n) = λ h. refl
  of_action s (Refuse n) = refused given n m

of_step : (s : Cpu) (l : Lent) → NoVector (step s l)
unfolding step perform
of_step s l =
    let m : Memory = memory_of l in
    let c : Change = execute s.r s.pc s.sr s.other s.emac m in
    by_cond (is_done (first_refusal s l)) _ _
    (by_cond s.stopped _ _ (refused s Stopped m) (of_action s m (applied s c) c.action))
    (refused s (first_refusal s l) m)

-- what a run of one tells of a step
abbrev told : Advance → Outcome
told a = outcome (record { reply = a.answer.reply; vector = a.answer.vector; cpu = a.answer.cpu }) a.storage

of_one : (o : Outcome) → NoVector o → (b : Bool) → is_done o.stepped.reply ≡ b
    → told (cond b (advance (ended_as Done 1 o.stepped.vector o.stepped.cpu) o.storage) (advance (ended_as o.stepped.reply 0 0 o.stepped.cpu) o.storage)) ≡ o
of_one o p true h = rw (← done-is o.stepped.reply h)
of_one o p false h = rw (← p h)

pub step_is : (r : Progress) (s : Cpu) (l : Lent) (m' : Storage) → advance r m' ≡ progress 1 0 0 s l → outcome (record { reply = r.reply; vector = r.vector; cpu = r.cpu }) m' ≡ step s l
unfolding progress
step_is r s l m' e = ap told e ∙ of_one (step s l) (of_step s l) (is_done (step s l).stepped.reply) refl
