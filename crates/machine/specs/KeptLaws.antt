-- Every step keeps a state admitted: a change names no status register, and each action sets one, or the EMAC, by a definition that
-- keeps it. Assumes nothing.
use Rattle.std.specs.Prelude.{◌≡◌, true, None}
use Prim.Native.Nat.{ℕ}
use Rattle.manual.specs.declared.Cpu.{Cpu}
use Rattle.manual.specs.declared.Emac.{Emac}
use Rattle.manual.specs.declared.Size.TheVariants.{Long}
use Rattle.manual.specs.declared.Action.{Action}
use Rattle.manual.specs.declared.Action.TheVariants.{Nothing, Store, StoreMany, LoadMany, Enter, Return, Status, Stop, PushStatus, Halt, SetOther, Accumulate, SetAcc, SetExt, SetMacsr, SetMask, CopyAcc, ClearAcc, MoveControl, Refuse}
use Rattle.manual.specs.declared.Change.{Change}
use Rattle.manual.specs.Word.{minus}
use Rattle.manual.specs.Registers.{address_of, with_address, with_emac, applied}
use Rattle.manual.specs.Memory.{Memory, storing, access_many, loaded_many}
use Rattle.manual.specs.Admitted.{admitted, emac_admitted}
use Rattle.manual.specs.Exceptions.{set_sr}
use Rattle.manual.specs.Emac.{accumulate, set_acc, set_ext, set_macsr, set_mask, copy_acc, clear_acc}
use Rattle.instructions.specs.Perform.{status_pushed, act, perform}
use Rattle.state.specs.AdmittedLaws.{admitted-emac, registers-admitted, address-admitted, other-admitted, stopped_admitted, emac-admitted, control-admitted, applied-admitted, set_sr-admitted}
use Rattle.exceptions.specs.EntryAdmitted.{refusal-admitted, taking-admitted, entered-admitted, returned-admitted}
use Rattle.emac.specs.EmacKept.{accumulate-kept, set_macsr-kept, set_acc-kept, copy_acc-kept, clear_acc-kept, set_ext-kept, set_mask-kept}

module _ (given s : Cpu) (m : Memory) (k : admitted given ≡ true) (h : admitted s ≡ true) where
  pushed_admitted : (v : ℕ) → admitted (status_pushed given s v m).stepped.cpu ≡ true
  unfolding status_pushed
  pushed_admitted v =
      let sp : ℕ = minus (address_of s.r 7) 4 in
      taking-admitted given m k (storing m sp Long) _
      (set_sr-admitted v (with_address 7 sp s) (admitted-emac (with_address 7 sp s) (address-admitted 7 sp s h)))

  unit-admitted : (e : Emac) → emac_admitted e ≡ true → admitted (with_emac e s) ≡ true
  unit-admitted e q = emac-admitted e s q h

  unit : emac_admitted s.emac ≡ true
  unit = admitted-emac s h

  act-admitted : (a : Action) → admitted (act given s a m).stepped.cpu ≡ true
  act-admitted Nothing = h
  act-admitted (Store a z v) = taking-admitted given m k (storing m a z) _ h
  act-admitted (StoreMany mask a) = taking-admitted given m k (access_many 16 m mask a) _ h
  act-admitted (LoadMany mask a) = taking-admitted given m k (access_many 16 m mask a) _ (registers-admitted (loaded_many 16 m 0 mask a s.r) s h)
  act-admitted (Enter vector pc) = entered-admitted given m k s None vector pc h
  act-admitted Return = returned-admitted given m k s h
  act-admitted (Status v) = set_sr-admitted v s unit
  act-admitted (Stop v) = stopped_admitted true (set_sr v s) (set_sr-admitted v s unit)
  act-admitted (PushStatus v) = pushed_admitted v
  act-admitted Halt = stopped_admitted true s h
  act-admitted (SetOther v) = other-admitted v s h
  act-admitted (Accumulate i scale sub x y) = unit-admitted (accumulate s.emac i scale sub x y) (accumulate-kept s.emac unit i scale sub x y)
  act-admitted (SetAcc i v) = unit-admitted (set_acc s.emac i v) (set_acc-kept s.emac unit i v)
  act-admitted (SetExt i v) = unit-admitted (set_ext s.emac i v) (set_ext-kept s.emac unit i v)
  act-admitted (SetMacsr v) = unit-admitted (set_macsr s.emac v) (set_macsr-kept s.emac unit v)
  act-admitted (SetMask v) = unit-admitted (set_mask s.emac v) (set_mask-kept s.emac unit v)
  act-admitted (CopyAcc from to) = unit-admitted (copy_acc s.emac from to) (copy_acc-kept s.emac unit from to)
  act-admitted (ClearAcc i) = unit-admitted (clear_acc s.emac i) (clear_acc-kept s.emac unit i)
  act-admitted (MoveControl writes c n) = control-admitted writes c n s h
  act-admitted (Refuse n) = refusal-admitted given n k

pub perform-admitted : (given : Cpu) (c : Change) (m : Memory) → admitted given ≡ true → admitted (perform given c m).stepped.cpu ≡ true
unfolding perform
perform-admitted given c m k = act-admitted given (applied given c) m k (applied-admitted given c k) c.action
