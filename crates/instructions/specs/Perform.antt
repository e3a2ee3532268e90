-- What an instruction leaves is done, once every access has been tested. A refused step changes nothing.
use Rattle.std.specs.Prelude.{ℕ, None}
use mathlib.Core.{Bool.true}
use Rattle.manual.specs.declared.{Cpu.Cpu, Size.TheVariants.Long, Action.Action, Action.TheVariants.Nothing, Action.TheVariants.Store, Action.TheVariants.StoreMany, Action.TheVariants.LoadMany}
use Rattle.manual.specs.declared.{Action.TheVariants.Enter, Action.TheVariants.Return, Action.TheVariants.Status, Action.TheVariants.Stop, Action.TheVariants.PushStatus, Action.TheVariants.Halt, Action.TheVariants.SetOther}
use Rattle.manual.specs.declared.{Action.TheVariants.Accumulate, Action.TheVariants.SetAcc, Action.TheVariants.SetExt, Action.TheVariants.SetMacsr, Action.TheVariants.SetMask, Action.TheVariants.CopyAcc, Action.TheVariants.ClearAcc}
use Rattle.manual.specs.declared.{Action.TheVariants.MoveControl, Action.TheVariants.Refuse, Change.Change}
use Rattle.manual.specs.{Word.minus, Registers.address_of, Registers.with_address, Registers.with_registers, Registers.with_other, Registers.with_emac, Registers.with_stopped, Registers.applied, Memory.Memory, Memory.storage_of, Memory.storing}
use Rattle.manual.specs.{Memory.stored, Memory.access_many, Memory.stored_many, Memory.loaded_many, Reply.Outcome, Reply.completed, Reply.unchanged, Reply.taking, Exceptions.set_sr, Exceptions.entered, Exceptions.returned, Emac.accumulate}
use Rattle.manual.specs.{Emac.set_acc, Emac.set_ext, Emac.set_macsr, Emac.set_mask, Emac.copy_acc, Emac.clear_acc, Control.control_moved}

-- STRLDSR: the status register is pushed as a long, and then replaced
-- 10. An immediate with S clear goes to user mode. The manual: a privilege violation
unfoldable pub status_pushed : Cpu → Cpu → ℕ → Memory → Outcome
status_pushed given s v m =
    let sp : ℕ = minus (address_of s.r 7) 4 in
    taking given m (storing m sp Long) (completed (set_sr v (with_address 7 sp s)) 0 (stored m sp Long s.sr))

-- STOP: a new status register, and the core is stopped
-- 11. An immediate with S clear stops in user mode. The manual of the 68000: a privilege violation
abbrev pub stopped_with : ℕ → Cpu → Cpu
stopped_with v s = with_stopped true (set_sr v s)

-- s are the registers after the instruction's own changes, `given` those before
abbrev pub act : Cpu → Cpu → Action → Memory → Outcome
act given s Nothing m = completed s 0 (storage_of m)
act given s (Store a z v) m = taking given m (storing m a z) (completed s 0 (stored m a z v))
act given s (StoreMany mask a) m = taking given m (access_many 16 m mask a) (completed s 0 (stored_many 16 s.r 0 mask a m))
act given s (LoadMany mask a) m = taking given m (access_many 16 m mask a) (completed (with_registers (loaded_many 16 m 0 mask a s.r) s) 0 (storage_of m))
act given s (Enter vector pc) m = entered given s None vector pc m
act given s Return m = returned given s m
act given s (Status v) m = completed (set_sr v s) 0 (storage_of m)
act given s (Stop v) m = completed (stopped_with v s) 0 (storage_of m)
act given s (PushStatus v) m = status_pushed given s v m
act given s Halt m = completed (with_stopped true s) 0 (storage_of m)
act given s (SetOther v) m = completed (with_other v s) 0 (storage_of m)
act given s (Accumulate i scale sub x y) m = completed (with_emac (accumulate s.emac i scale sub x y) s) 0 (storage_of m)
act given s (SetAcc i v) m = completed (with_emac (set_acc s.emac i v) s) 0 (storage_of m)
act given s (SetExt i v) m = completed (with_emac (set_ext s.emac i v) s) 0 (storage_of m)
act given s (SetMacsr v) m = completed (with_emac (set_macsr s.emac v) s) 0 (storage_of m)
act given s (SetMask v) m = completed (with_emac (set_mask s.emac v) s) 0 (storage_of m)
act given s (CopyAcc from to) m = completed (with_emac (copy_acc s.emac from to) s) 0 (storage_of m)
act given s (ClearAcc i) m = completed (with_emac (clear_acc s.emac i) s) 0 (storage_of m)
act given s (MoveControl writes c n) m = completed (control_moved writes c n s) 0 (storage_of m)
act given s (Refuse n) m = unchanged given n m

unfoldable pub perform : Cpu → Change → Memory → Outcome
perform given c m = act given (applied given c) c.action m
