-- The call that a record's head names: its kind, then the vector, the level, and from byte 6 a long, which is the budget of a run and else
-- the program counter of the frame.
use Rattle.std.specs.Prelude.{ℕ, ◌+◌, ◌*◌, min, cond, List, ◌++◌, eqb, get_or, length, take, drop, None, Some}
use Rattle.replay.specs.declared.record.Call.{Call}
use Rattle.replay.specs.declared.record.Call.TheVariants.{Step, Run, Exception, ExceptionAt, Interrupt, Rte}
use Rattle.manual.specs.Memory.{Storage, value_at}
use Rattle.manual.specs.Lent.{Lent, lent}
use Rattle.instructions.specs.HostCalls.{Called, called, exception_on, interrupt_on, rte_on, step_on, run_on}

-- the call of a number
unfoldable pub call_of : ℕ → Call
call_of kind =
    cond (eqb kind 0) Step
    (cond (eqb kind 1) Run
    (cond (eqb kind 2) Exception
    (cond (eqb kind 3) ExceptionAt
    (cond (eqb kind 4) Interrupt Rte))))

-- what it answers
unfoldable pub answer_of : Call → List ℕ → Lent → ℕ → ℕ → ℕ → Called
answer_of Step b l vector level number = step_on b l
answer_of Run b l vector level number = run_on b l number
answer_of Exception b l vector level number = exception_on b l vector number None
answer_of ExceptionAt b l vector level number = exception_on b l vector number (Some level)
answer_of Interrupt b l vector level number = interrupt_on b l vector level
answer_of Rte b l vector level number = rte_on b l

unfoldable pub asked : List ℕ → List ℕ → Storage → Called
asked h b m =
    let vector : ℕ = get_or h 1 0 in
    let level : ℕ = get_or h 2 0 in
    let number : ℕ = value_at h 6 4 in
    answer_of (call_of (get_or h 0 0)) b (lent m) vector level number

-- how many bytes of the block and of the memory the call gets
abbrev pub block_bytes : List ℕ → List ℕ → ℕ
block_bytes h b = min (get_or h 3 0) (length b)

abbrev pub memory_bytes : List ℕ → Storage → ℕ
memory_bytes h m = min (get_or h 4 0 * 256 + get_or h 5 0) (length m)

-- the call on the first bytes of an array for the block and of one for the memory: the others stay
unfoldable pub answered : List ℕ → List ℕ → Storage → Called
answered h b m =
    let k : Called = asked h (take (block_bytes h b) b) (take (memory_bytes h m) m) in
    called k.answer (k.block ++ drop (block_bytes h b) b) (k.storage ++ drop (memory_bytes h m) m)
