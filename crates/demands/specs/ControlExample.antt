-- Handlers that write CACR bit 5. Document: demand 3, "CACR bit 5 is the same at the return".
--
-- Bit 5 says that there are two stack pointers, and by MOVEC a handler can change it. A user program has a stack of its own, and handlers
-- another. By TRAP #0 it comes to handler A, which clears the bit and returns. That is outside the claim, and has to be: A7 stays on
-- the handlers' stack. By TRAP #1 it comes to handler B, which clears the bit, sets it again and returns. That is inside, and the entry
-- is undone. The numbers come out by computation; that B's return undoes its entry is said by `EntryIsUndone`. Assumes nothing.
use Rattle.std.specs.Prelude.{ℕ, ◌≡◌, refl, List, [], ◌∷◌, ◌++◌, replicate}
use Rattle.std.proofs.Common.{sym, ap, ◌∙◌, arith}
use Rattle.std.proofs.lemmas.Bool.{false≢true}
use Rattle.manual.specs.declared.Cpu.{Cpu}
use Rattle.manual.specs.Word as word
use Rattle.manual.specs.Bits as bits
use Rattle.manual.specs.Flags as flags
use Rattle.manual.specs.Registers as registers
use Rattle.manual.specs.Registers.{with_pc, with_cacr}
use Rattle.manual.specs.Memory as memories
use Rattle.manual.specs.Emac as emac
use Rattle.manual.specs.Admitted as admits
use Rattle.manual.specs.Lent as lents
use Rattle.manual.specs.Lent.{Lent, lent}
use Rattle.manual.specs.Change as change
use Rattle.manual.specs.Control as control
use Rattle.manual.specs.Reply.{Outcome, completed}
use Rattle.manual.specs.Exceptions as exceptions
use Rattle.instructions.specs.Rows.{row_of, place_in}
use Rattle.instructions.specs.Line4 as l4
use Rattle.instructions.specs.Perform.{perform}
use Rattle.instructions.specs.Step.{instruction, execute, step}
use Rattle.demands.specs.Exact.{Bytes}
use Rattle.demands.specs.NestingExample.{longs, state, typed-state, bytes-longs, admitted-state}
use Rattle.demands.specs.Undone.{every_entry, by_word, AtReturn, Undoes, entry_is_undone}

-- the words, the vectors 32 and 33, and above them the handlers' stack, on which the frame's two longs are
abbrev contents : ℕ → ℕ → List ℕ
contents low high =
    (0x4E40_4E41 ∷  -- 0x00, the program: TRAP #0; TRAP #1
    0x4E7B_0002 ∷ 0x4E73_0000 ∷  -- 0x04, A: MOVEC D0,CACR; RTE
    0x4E7B_0002 ∷ 0x4E7B_1002 ∷ 0x4E73_0000 ∷  -- 0x0C, B: MOVEC D0,CACR; MOVEC D1,CACR; RTE
    [])
    ++ replicate 26 0
    ++ (0x04 ∷ 0x0C ∷ [])  -- 0x80
    ++ (low ∷ high ∷ [])

unfoldable pub memory : ℕ → ℕ → Lent
memory low high = lent (longs (contents low high))

-- A7, the other pointer, the program counter and the status register; D0 is 0, D1 and CACR are 0x20
abbrev pub at : ℕ → ℕ → ℕ → ℕ → Cpu
at a7 other pc sr = state 0 0x20 a7 other pc sr

-- memory before an entry, in A and in B
abbrev m0 : Lent
m0 = memory 0 0

abbrev ma : Lent
ma = memory 0x4080_0015 2

abbrev mb : Lent
mb = memory 0x4084_0015 4

-- the states that come with A
abbrev a0 : Cpu
a0 = at 0x40 0x90 0x00 0x0015

abbrev a1 : Cpu
a1 = at 0x88 0x40 0x04 0x2015

abbrev a2 : Cpu
a2 = with_cacr 0 (at 0x88 0x40 0x08 0x2015)

abbrev a3 : Cpu
a3 = with_cacr 0 (at 0x90 0x40 0x02 0x0015)

-- and with B
abbrev b0 : Cpu
b0 = at 0x40 0x90 0x02 0x0015

abbrev b1 : Cpu
b1 = at 0x88 0x40 0x0C 0x2015

abbrev b2 : Cpu
b2 = with_cacr 0 (at 0x88 0x40 0x10 0x2015)

abbrev b3 : Cpu
b3 = at 0x88 0x40 0x14 0x2015

abbrev b4 : Cpu
b4 = at 0x40 0x90 0x04 0x0015

-- each answer: the vector that was entered or 0, the state and memory
pub record Answers : Type 0 where
  -- TRAP #0; A clears bit 5, and returns: the program goes on with A7 at the handlers' stack
  pub enters-a : step a0 m0 ≡ completed a1 32 ma.storage
  pub a_clears : step a1 ma ≡ completed a2 0 ma.storage
  pub a-returns : step a2 ma ≡ completed a3 0 ma.storage
  -- TRAP #1; B clears bit 5, sets it again, and returns: the program goes on with its own stack
  pub enters-b : step b0 m0 ≡ completed b1 33 mb.storage
  pub b_clears : step b1 mb ≡ completed b2 0 mb.storage
  pub b-sets : step b2 mb ≡ completed b3 0 mb.storage
  pub b-returns : step b3 mb ≡ completed b4 0 mb.storage

pub record ControlExample : Type 0 where
  pub answers : Answers
  -- A's return is outside the claim, for bit 5 is not as the entry left it; and what the claim gives does not hold of it
  pub a-outside : AtReturn a1 a2 → ⊥
  pub a_not_undone : Undoes (with_pc 2 a0) 2 ma.storage (step a2 ma) → ⊥
  -- B's return is inside, and by the claim it gives back SR, A7, the other pointer and the program counter
  pub b-inside : AtReturn b1 b3
  pub b-undone : Undoes (with_pc 4 b0) 4 mb.storage (step b3 mb)

-- ---- the proofs

answers_are : Answers
unfolding memory state step execute bits.with_bit instruction perform row_of place_in admits.admitted admits.status admits.emac_admitted emac.acc_of memories.load memories.value_at memories.store_at memories.access word.plus word.minus registers.address_of registers.general registers.no_write registers.written registers.with_parts registers.with_address registers.with_pc registers.with_sr registers.with_other registers.with_stopped registers.with_cacr registers.coded registers.applied change.acting change.enter change.enter_after flags.kept_codes control.control_register control.movec_write control.control_moved l4.line4 l4.trap l4.rte l4.movec exceptions.set_sr exceptions.handler_sr exceptions.frame_long exceptions.handler_state exceptions.entered exceptions.return_state exceptions.returned lents.lent_refusal lents.state_refusal lents.first_refusal
answers_are = record { enters-a = refl; a_clears = refl; a-returns = refl; enters-b = refl; b_clears = refl; b-sets = refl; b-returns = refl }

bytes-memory : (low high : ℕ) → Bytes (memory low high).storage
unfolding memory
bytes-memory low high = bytes-longs (contents low high)

a-outside : AtReturn a1 a2 → ⊥
unfolding state with_cacr
a-outside h = false≢true h.same-cacr

-- A7 is 0x90, and was 0x40
a_not_undone : Undoes (with_pc 2 a0) 2 ma.storage (step a2 ma) → ⊥
unfolding state with_cacr with_pc registers.address_of
a_not_undone u =
    let e : ◌≡◌ {A = ℕ} 0x90 0x40 = ap (λ (o : Outcome). registers.address_of o.stepped.cpu.r 7) (sym answers_are.a-returns) ∙ u.back.a7_back in
    omega arith

b-inside : AtReturn b1 b3
unfolding state registers.address_of
b-inside = record { same_s = refl; same-cacr = refl; same_a7 = refl; same-other = refl }

b-undone : Undoes (with_pc 4 b0) 4 mb.storage (step b3 mb)
unfolding memory state memories.load memories.access memories.value_at admits.status word.plus
b-undone =
    entry_is_undone b0 m0 (with_pc 4 b0) 4 (completed b1 33 mb.storage) (typed-state _ _ _ _ _ _ (omega arith), bytes-memory 0 0)
    (rw answers_are.enters-b at (every_entry.trap-enters b0 m0 1 (omega arith) refl)) refl
    b3 mb (step b3 mb) (typed-state _ _ _ _ _ _ (omega arith), bytes-memory 0x4084_0015 4) (admitted-state 0 0x20 0x88 0x40 0x14 0x2015 refl)
    (record { at_return = b-inside; as_much = refl; same_frame = λ j h. refl }) (by_word refl refl refl)

pub control_example : ControlExample
control_example = record { answers = answers_are; a-outside = a-outside; a_not_undone = a_not_undone; b-inside = b-inside; b-undone = b-undone }
