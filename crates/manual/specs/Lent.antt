-- What is lent to a call beside the state, and the tests that come before everything else that a call does.
-- Document: "Numbered replies". A test that refuses before a call begins belongs here, in the document's order.
use Rattle.std.specs.Prelude.{ℕ}
use mathlib.Core.{Bool.Bool, Bool.cond}
use lib.{Dec.ltb, ListN.length}
use Rattle.manual.specs.declared.{Cpu.Cpu, Reply.Reply, Reply.TheVariants.Done, Reply.TheVariants.TooLong, Reply.TheVariants.NotAdmitted}
use Rattle.manual.specs.{Memory.Storage, Memory.Memory, Memory.mapped, Reply.Outcome, Reply.unchanged, Reply.is_done, Admitted.admitted}

pub record Lent : Type 0 where
  pub storage : Storage

abbrev pub lent : Storage → Lent
lent b = record { storage = b }

-- the memory that it is
abbrev pub memory_of : Lent → Memory
memory_of l = mapped l.storage

-- the same with other bytes
abbrev pub lent_on : Lent → Storage → Lent
lent_on l b = record { storage = b }

-- ---- the first refusals

-- memory is at most 16,777,216 bytes
abbrev pub longest : ℕ
longest = 0x100_0000

abbrev pub too_long : Lent → Bool
too_long l = ltb longest (length l.storage)

-- a reply, or another where it is done
abbrev pub or_else : Reply → Reply → Reply
or_else n k = cond (is_done n) k n

-- what is lent cannot be used: 1
unfoldable pub lent_refusal : Lent → Reply
lent_refusal l = cond (too_long l) TooLong Done

-- the state cannot be used: 2
unfoldable pub state_refusal : Cpu → Reply
state_refusal s = cond (admitted s) Done NotAdmitted

-- the reply of the first test that fails; done where none does
unfoldable pub first_refusal : Cpu → Lent → Reply
first_refusal s l = or_else (lent_refusal l) (state_refusal s)

-- a call with the outcome o
abbrev pub checked : Cpu → Lent → Outcome → Outcome
checked s l o = cond (is_done (first_refusal s l)) o (unchanged s (first_refusal s l) (memory_of l))
