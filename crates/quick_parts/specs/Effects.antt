-- A change that is done in place: its registers, its store, and the registers that MOVEM stores or loads. Any other change is left undone.
use Rattle.std.specs.Prelude.{ℕ, List, Option, Some, None, Result, Ok, Err}
use Rattle.manual.specs.declared.Fault.{Fault}
use Rattle.manual.specs.declared.Action.{Action}
use Rattle.manual.specs.declared.Action.TheVariants.{Nothing, Store, StoreMany, LoadMany, Enter, Return, Status, Stop, PushStatus, Halt, SetOther, Accumulate, SetAcc, SetExt, SetMacsr, SetMask, CopyAcc, ClearAcc, MoveControl, Refuse}
use Rattle.manual.specs.declared.Change.{Change}
use Rattle.manual.specs.Registers.{written, coded}
use Rattle.manual.specs.Memory.{Storage, Memory, storage_of, storing, stored, access_many, stored_many, loaded_many}

-- the next address of a change that was done, or none, and the status register, the registers and storage after it
pub record After : Type 0 where
  pub next : Option ℕ
  pub status : ℕ
  pub registers : List ℕ
  pub storage : Storage

abbrev pub after : Option ℕ → ℕ → List ℕ → Storage → After
after next sr g b = record { next = next; status = sr; registers = g; storage = b }

-- one thing where memory took it, else another
abbrev pub where_taken : Result Unit Fault → After → After → After
where_taken (Ok tt) x left = x
where_taken (Err f) x left = left

-- what an action makes of the registers and of storage, or nothing
abbrev pub acted : Action → (List ℕ → Storage → After) → After → List ℕ → Memory → After
acted Nothing f left g m = f g (storage_of m)
acted (Store a z v) f left g m = where_taken (storing m a z) (f g (stored m a z v)) left
acted (StoreMany mask a) f left g m = where_taken (access_many 16 m mask a) (f g (stored_many 16 g 0 mask a m)) left
acted (LoadMany mask a) f left g m = where_taken (access_many 16 m mask a) (f (loaded_many 16 m 0 mask a g) (storage_of m)) left
acted (Enter vector pc) f left g m = left
acted Return f left g m = left
acted (Status v) f left g m = left
acted (Stop v) f left g m = left
acted (PushStatus v) f left g m = left
acted Halt f left g m = left
acted (SetOther v) f left g m = left
acted (Accumulate i scale sub x y) f left g m = left
acted (SetAcc i v) f left g m = left
acted (SetExt i v) f left g m = left
acted (SetMacsr v) f left g m = left
acted (SetMask v) f left g m = left
acted (CopyAcc from to) f left g m = left
acted (ClearAcc i) f left g m = left
acted (MoveControl writes c n) f left g m = left
acted (Refuse n) f left g m = left

unfoldable pub in_place : Change → ℕ → List ℕ → Memory → After
in_place c sr g m =
    acted c.action
    (λ g' b. after (Some c.pc) (coded sr c.ccr) g' b)
    (after None sr g (storage_of m)) (written c.second (written c.first g)) m

-- the next address says that the change was done, none that nothing was
abbrev pub agreed : Option ℕ → Change → ℕ → List ℕ → Memory → After
agreed (Some next) c sr g m = in_place c sr g m
agreed None c sr g m = after None sr g (storage_of m)
