-- The answers: what number each reply has, and what a call hands back with memory. Document: "Numbered replies".
use Rattle.std.specs.Prelude.{ℕ, Result, Ok, Err}
use mathlib.Core.{Bool.Bool}
use lib.{Dec.eqb}
use Rattle.manual.specs.declared.{Fault.Fault, Fault.TheVariants.Outside}
use Rattle.manual.specs.declared.{Cpu.Cpu, Reply.Reply, Reply.TheVariants.Done, Reply.TheVariants.TooLong, Reply.TheVariants.NotAdmitted}
use Rattle.manual.specs.declared.{Reply.TheVariants.Stopped, Reply.TheVariants.NotInside, Reply.TheVariants.NotCarried, Reply.TheVariants.OutOfRange, Reply.TheVariants.Masked, Reply.TheVariants.WrongVersion}
use Rattle.manual.specs.declared.{Reply.TheVariants.WrongLength, Stepped.Stepped}
use Rattle.manual.specs.{Memory.Storage, Memory.Memory, Memory.storage_of}

abbrev pub number_of : Reply → ℕ
number_of Done = 0
number_of TooLong = 1
number_of NotAdmitted = 2
number_of Stopped = 3
number_of NotInside = 4
number_of NotCarried = 5
number_of OutOfRange = 6
number_of Masked = 7
number_of WrongVersion = 8
number_of WrongLength = 9

-- whether a call was done
abbrev pub is_done : Reply → Bool
is_done n = eqb (number_of n) 0

-- the reply to an access that memory does not take
-- 6. The step is refused. The manual: an access error, vector 2
abbrev pub fault_reply : Fault → Reply
fault_reply Outside = NotInside

-- a step's answer, and storage after it
pub record Outcome : Type 0 where
  pub stepped : Stepped
  pub storage : Storage

abbrev pub outcome : Stepped → Storage → Outcome
outcome r s = record { stepped = r; storage = s }

-- done: the vector that was entered or 0, the new state and storage
abbrev pub completed : Cpu → ℕ → Storage → Outcome
completed s vector b = record { stepped = record { reply = Done; vector = vector; cpu = s }; storage = b }

-- refused: the state and storage as given, and no vector
unfoldable pub refusal : Cpu → Reply → Stepped
refusal given n = record { reply = n; vector = 0; cpu = given }

abbrev pub unchanged : Cpu → Reply → Memory → Outcome
unchanged given n m = record { stepped = refusal given n; storage = storage_of m }

-- ---- going on, or a refusal with the fault's reply

-- at the place where an access lies
abbrev pub accessing : Cpu → Memory → Result ℕ Fault → (ℕ → Outcome) → Outcome
accessing given m (Ok at) f = f at
accessing given m (Err x) f = unchanged given (fault_reply x) m

-- with the number that was read
abbrev pub loading : Cpu → Memory → Result ℕ Fault → (ℕ → Outcome) → Outcome
loading given m (Ok v) f = f v
loading given m (Err x) f = unchanged given (fault_reply x) m

-- where memory took what was to be stored
abbrev pub taking : Cpu → Memory → Result Unit Fault → Outcome → Outcome
taking given m (Ok tt) o = o
taking given m (Err x) o = unchanged given (fault_reply x) m
