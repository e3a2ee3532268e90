-- An interrupt in a handler that has pushed a register, in a handler that has pushed two. Document: demand 3.
--
-- A user program, with a stack of its own, does TRAP #0. Handler A pushes D0 and D1 and does TRAP #1. Handler B pushes D0, sets
-- it to 9, and is interrupted at level 5. Then each returns in its turn, and A and B pop what they pushed. So A7 is another
-- at each entry, and at each return it is as that return's own entry left it.
-- The numbers come out by computation; that the last return gives back what was handed to the first entry is said by
-- `EntriesNest`. Assumes nothing.
use Rattle.std.specs.Prelude.{ℕ, zero, suc, ◌+◌, ◌/◌, ◌%◌, ◌^◌, ◌<◌, ◌≡◌, refl, true, false, List, [], ◌∷◌, ◌++◌, T, eqb, length, get_or, set, replicate}
use Rattle.std.proofs.Common.{inl, arith, eqb→eq}
use Rattle.manual.specs.declared.Cpu.{Cpu}
use Rattle.manual.specs.declared.Size.TheVariants.{Byte}
use Rattle.manual.specs.Word as word
use Rattle.manual.specs.Bits as bits
use Rattle.manual.specs.Flags as flags
use Rattle.manual.specs.Registers as registers
use Rattle.manual.specs.Memory as memories
use Rattle.manual.specs.Memory.{Storage}
use Rattle.manual.specs.Address as address
use Rattle.manual.specs.Emac as emac
use Rattle.manual.specs.Admitted as admits
use Rattle.manual.specs.Admitted.{admitted}
use Rattle.manual.specs.Lent as lents
use Rattle.manual.specs.Lent.{Lent, lent, memory_of}
use Rattle.manual.specs.Change as change
use Rattle.manual.specs.Reply.{Outcome, completed}
use Rattle.manual.specs.Exceptions as exceptions
use Rattle.manual.specs.Exceptions.{interrupt, rte}
use Rattle.instructions.specs.Rows.{row_of, place_in}
use Rattle.instructions.specs.Moves as moves
use Rattle.instructions.specs.Line4 as l4
use Rattle.instructions.specs.Line7 as l7
use Rattle.instructions.specs.Perform.{perform}
use Rattle.instructions.specs.Step.{instruction, execute, step}
use Rattle.rows.specs.TableLaws.{all_below, below}
use Rattle.state.specs.AdmittedLaws.{admitted_of}
use Rattle.block.specs.Typed.{Typed}
use Rattle.demands.specs.Exact.{Bytes, Values}
use Rattle.demands.specs.ValueLaws.{set_below}
use Rattle.demands.specs.Undone.{Enters, by-interrupt, every_entry, Returns, by-rte, by_word, AtReturn, Undoes}
use Rattle.demands.specs.Nesting.{Pending, pending, left_by, SameFrames, TouchesNone, Reached, start, entry, work, return, entries_nest}

-- longs, the high byte of each first
abbrev pub longs : List ℕ → Storage
longs [] = []
longs (x ∷ xs) = (x / 0x100_0000 % 256) ∷ (x / 0x1_0000 % 256) ∷ (x / 0x100 % 256) ∷ (x % 256) ∷ longs xs

-- the words, the vectors, and above them the handlers' stack: 43 longs
abbrev contents : List ℕ → List ℕ
contents stack =
    (0x4E40_0000 ∷  -- 0x00, the program: TRAP #0
    0x2F00_2F01 ∷ 0x4E41_221F ∷ 0x201F_4E73 ∷  -- 0x04, A: MOVE.L D0,-(A7); MOVE.L D1,-(A7); TRAP #1; MOVE.L (A7)+,D1; MOVE.L (A7)+,D0; RTE
    0x2F00_7009 ∷ 0x201F_4E73 ∷  -- 0x10, B: MOVE.L D0,-(A7); MOVEQ #9,D0; MOVE.L (A7)+,D0; RTE
    [])
    ++ replicate 23 0
    ++ (0x18 ∷ 0 ∷ 0 ∷ 0x04 ∷ 0x10 ∷ [])  -- 0x74, the vectors 29 to 33
    ++ stack

unfoldable pub memory : List ℕ → Lent
memory stack = lent (longs (contents stack))

-- D0, D1, A7, the other pointer, the program counter and the status register; CACR bit 5 is set, and the rest is 0
unfoldable pub state : ℕ → ℕ → ℕ → ℕ → ℕ → ℕ → Cpu
state d0 d1 a7 other pc sr = record {
  r = set (set (set (replicate 16 0) 0 d0) 1 d1) 15 a7;
  pc = pc;
  sr = sr;
  other = other;
  vbr = 0;
  cacr = 0x20;
  emac = record { macsr = 0; mask = 0; acc = replicate 4 0 };
  stopped = false;
}

-- the stack, from 0x88 on: the interrupt's frame, B's D0, B's frame, A's D1 and D0, A's frame
abbrev m0 : Lent
m0 = memory (0 ∷ 0 ∷ 0 ∷ 0 ∷ 0 ∷ 0 ∷ 0 ∷ 0 ∷ 0 ∷ [])

abbrev m1 : Lent
m1 = memory (0 ∷ 0 ∷ 0 ∷ 0 ∷ 0 ∷ 0 ∷ 0 ∷ 0x4080_0015 ∷ 2 ∷ [])

abbrev m2 : Lent
m2 = memory (0 ∷ 0 ∷ 0 ∷ 0 ∷ 0 ∷ 0 ∷ 5 ∷ 0x4080_0015 ∷ 2 ∷ [])

abbrev m3 : Lent
m3 = memory (0 ∷ 0 ∷ 0 ∷ 0 ∷ 0 ∷ 6 ∷ 5 ∷ 0x4080_0015 ∷ 2 ∷ [])

abbrev m4 : Lent
m4 = memory (0 ∷ 0 ∷ 0 ∷ 0x4084_2010 ∷ 0x0A ∷ 6 ∷ 5 ∷ 0x4080_0015 ∷ 2 ∷ [])

abbrev m5 : Lent
m5 = memory (0 ∷ 0 ∷ 5 ∷ 0x4084_2010 ∷ 0x0A ∷ 6 ∷ 5 ∷ 0x4080_0015 ∷ 2 ∷ [])

abbrev m6 : Lent
m6 = memory (0x4074_2010 ∷ 0x14 ∷ 5 ∷ 0x4084_2010 ∷ 0x0A ∷ 6 ∷ 5 ∷ 0x4080_0015 ∷ 2 ∷ [])

-- the states that the run comes to
abbrev s0 : Cpu
s0 = state 5 6 0x40 0xAC 0x00 0x0015

abbrev s1 : Cpu
s1 = state 5 6 0xA4 0x40 0x04 0x2015

abbrev s2 : Cpu
s2 = state 5 6 0xA0 0x40 0x06 0x2010

abbrev s3 : Cpu
s3 = state 5 6 0x9C 0x40 0x08 0x2010

abbrev s4 : Cpu
s4 = state 5 6 0x94 0x40 0x10 0x2010

abbrev s5 : Cpu
s5 = state 5 6 0x90 0x40 0x12 0x2010

abbrev s6 : Cpu
s6 = state 9 6 0x90 0x40 0x14 0x2010

abbrev s7 : Cpu
s7 = state 9 6 0x88 0x40 0x18 0x2510

abbrev s8 : Cpu
s8 = state 5 6 0x94 0x40 0x16 0x2010

abbrev s9 : Cpu
s9 = state 5 6 0x9C 0x40 0x0A 0x2010

abbrev s10 : Cpu
s10 = state 5 6 0xA0 0x40 0x0C 0x2010

abbrev s11 : Cpu
s11 = state 5 6 0xA4 0x40 0x0E 0x2010

abbrev s12 : Cpu
s12 = state 5 6 0x40 0xAC 0x02 0x0015

-- each answer: the vector that was entered or 0, the state and memory
pub record Answers : Type 0 where
  -- the program's TRAP #0
  pub trap_0 : step s0 m0 ≡ completed s1 32 m1.storage
  -- A pushes D0 and D1, and does TRAP #1
  pub a_pushes_d0 : step s1 m1 ≡ completed s2 0 m2.storage
  pub a_pushes_d1 : step s2 m2 ≡ completed s3 0 m3.storage
  pub trap_1 : step s3 m3 ≡ completed s4 33 m4.storage
  -- B pushes D0, sets it to 9, and is interrupted
  pub b_pushes_d0 : step s4 m4 ≡ completed s5 0 m5.storage
  pub b_sets_d0 : step s5 m5 ≡ completed s6 0 m5.storage
  pub interrupted : interrupt s6 m5 29 5 ≡ completed s7 29 m6.storage
  -- the interrupt's return: B goes on
  pub return_to_b : rte s7 m6 ≡ completed s6 0 m6.storage
  pub b_pops_d0 : step s6 m6 ≡ completed s8 0 m6.storage
  -- B's RTE: A goes on
  pub return_to_a : step s8 m6 ≡ completed s9 0 m6.storage
  pub a_pops_d1 : step s9 m6 ≡ completed s10 0 m6.storage
  pub a_pops_d0 : step s10 m6 ≡ completed s11 0 m6.storage
  -- A's RTE: the program goes on
  pub return_to_program : step s11 m6 ≡ completed s12 0 m6.storage

-- the three entries
abbrev first : Pending
first = pending (registers.with_pc 2 s0) 2 (completed s1 32 m1.storage)

abbrev second : Pending
second = pending (registers.with_pc 0x0A s3) 0x0A (completed s4 33 m4.storage)

abbrev third : Pending
third = pending s6 0x14 (completed s7 29 m6.storage)

pub record NestingExample : Type 0 where
  pub answers : Answers
  -- at the interrupt none of the three is returned from
  pub deepest : Reached (third ∷ second ∷ first ∷ []) s7 m6
  -- and at A's RTE the first alone
  pub last : Reached (first ∷ []) s11 m6
  -- so `EntriesNest` says that it is done, keeps memory, and gives back SR, A7, the other pointer and the program counter
  pub back : Undoes (registers.with_pc 2 s0) 2 m6.storage (step s11 m6)

-- ---- the proofs

answers_are : Answers
unfolding memory state step execute bits.with_bit instruction perform row_of place_in admits.admitted admits.status admits.emac_admitted emac.acc_of memories.load memories.value_at memories.store_at memories.storing memories.stored memories.access word.cut word.merged word.plus word.minus word.signed_at word.sign_extended registers.data_of registers.address_of registers.no_write registers.write_data registers.write_address registers.written registers.with_parts registers.with_address registers.with_pc registers.with_sr registers.with_other registers.with_stopped registers.coded registers.applied address.operand address.extension address.source address.value address.fetch address.locate address.moved address.destination_of change.done change.acting change.store change.put change.enter change.enter_after flags.codes flags.kept_codes flags.move_codes moves.move moves.moves l4.line4 l4.trap l4.rte l7.line7 l7.moveq exceptions.set_sr exceptions.handler_sr exceptions.frame_long exceptions.handler_state exceptions.entered exceptions.return_state exceptions.returned exceptions.interrupt exceptions.masked exceptions.rte lents.lent_refusal lents.state_refusal lents.first_refusal
answers_are = record {
  trap_0 = refl;
  a_pushes_d0 = refl;
  a_pushes_d1 = refl;
  trap_1 = refl;
  b_pushes_d0 = refl;
  b_sets_d0 = refl;
  interrupted = refl;
  return_to_b = refl;
  b_pops_d0 = refl;
  return_to_a = refl;
  a_pops_d1 = refl;
  a_pops_d0 = refl;
  return_to_program = refl;
}

-- ---- what the types say of these states and memories

zeros : (n j k : ℕ) → 0 < k → get_or (replicate n 0) j 0 < k
zeros zero j k h = h
zeros (suc n) zero k h = h
zeros (suc n) (suc j) k h = zeros n j k h

pub typed-state : (d0 d1 a7 other pc sr : ℕ) → d0 + d1 + a7 + other + pc + sr < 2 ^ 16 → Typed (state d0 d1 a7 other pc sr)
unfolding state
typed-state d0 d1 a7 other pc sr h = record {
  sixteen = refl;
  registers =
      let zeroed : List ℕ = replicate 16 0 in
      set_below (set (set zeroed 0 d0) 1 d1) 15 a7 _ (set_below (set zeroed 0 d0) 1 d1 _ (set_below zeroed 0 d0 _ (λ j. zeros 16 j (2 ^ 32) (omega arith)) (omega arith)) (omega arith)) (omega arith);
  pc-long = omega arith;
  sr-word = omega arith;
  other-long = omega arith;
  vbr-long = omega arith;
  cacr-long = omega arith;
  mask-long = omega arith;
  four = refl;
}

pub bytes-longs : (xs : List ℕ) → Bytes (longs xs)
bytes-longs [] j = omega arith
bytes-longs (x ∷ xs) zero = omega arith
bytes-longs (x ∷ xs) (suc zero) = omega arith
bytes-longs (x ∷ xs) (suc (suc zero)) = omega arith
bytes-longs (x ∷ xs) (suc (suc (suc zero))) = omega arith
bytes-longs (x ∷ xs) (suc (suc (suc (suc j)))) = bytes-longs xs j

bytes-memory : (stack : List ℕ) → Bytes (memory stack).storage
unfolding memory
bytes-memory stack = bytes-longs (contents stack)

pub admitted-state : (d0 d1 a7 other pc sr : ℕ) → admits.status sr ≡ sr → admitted (state d0 d1 a7 other pc sr) ≡ true
unfolding state admits.emac_admitted emac.acc_of
admitted-state d0 d1 a7 other pc sr h = admitted_of _ h refl

abbrev Fits : Cpu → Lent → Type 0
Fits s l = Values s l.storage × (admitted s ≡ true)

fits : (d0 d1 a7 other pc sr : ℕ) (stack : List ℕ) → d0 + d1 + a7 + other + pc + sr < 2 ^ 16 → admits.status sr ≡ sr → Fits (state d0 d1 a7 other pc sr) (memory stack)
fits d0 d1 a7 other pc sr stack h k = ((typed-state d0 d1 a7 other pc sr h, bytes-memory stack), admitted-state d0 d1 a7 other pc sr k)

-- an entry left the one state, and its return is made on the other
same_stack : (d0 d1 e0 e1 a7 other pc at sr v : ℕ) → exceptions.supervisor v ≡ exceptions.supervisor sr → AtReturn (state d0 d1 a7 other pc sr) (state e0 e1 a7 other at v)
unfolding state registers.address_of
same_stack d0 d1 e0 e1 a7 other pc at sr v h = record { same_s = h; same-cacr = refl; same_a7 = refl; same-other = refl }

record Facts : Type 0 where
  at_0 : Fits s0 m0
  at_2 : Fits s2 m2
  at_3 : Fits s3 m3
  at_5 : Fits s5 m5
  at_6 : Fits s6 m5
  at_8 : Fits s8 m6
  at_10 : Fits s10 m6
  at_11 : Fits s11 m6
  third-returns : AtReturn (left_by third) s7
  second-returns : AtReturn (left_by second) s8
  first-returns : AtReturn (left_by first) s11

facts : Facts
unfolding admits.status
facts = record {
  at_0 = fits _ _ _ _ _ _ _ (omega arith) refl;
  at_2 = fits _ _ _ _ _ _ _ (omega arith) refl;
  at_3 = fits _ _ _ _ _ _ _ (omega arith) refl;
  at_5 = fits _ _ _ _ _ _ _ (omega arith) refl;
  at_6 = fits _ _ _ _ _ _ _ (omega arith) refl;
  at_8 = fits _ _ _ _ _ _ _ (omega arith) refl;
  at_10 = fits _ _ _ _ _ _ _ (omega arith) refl;
  at_11 = fits _ _ _ _ _ _ _ (omega arith) refl;
  third-returns = same_stack _ _ _ _ _ _ _ _ _ _ refl;
  second-returns = same_stack _ _ _ _ _ _ _ _ _ _ refl;
  first-returns = same_stack _ _ _ _ _ _ _ _ _ _ refl;
}

-- ---- the run

-- the eight bytes at a, compared
abbrev byte_at : Lent → ℕ → ℕ
byte_at l a = memories.number_at (memory_of l) a Byte

eight : (a : ℕ) (l l' : Lent) → T (all_below (λ j. eqb (byte_at l' (word.plus a j)) (byte_at l (word.plus a j))) 8)
    → (j : ℕ) → j < 8 → byte_at l' (word.plus a j) ≡ byte_at l (word.plus a j)
eight a l l' h j k = eqb→eq _ _ (below (λ j. eqb (byte_at l' (word.plus a j)) (byte_at l (word.plus a j))) 8 h j k)

-- an entry, a TRAP as a step, work and a return, whose answer is known
entry-to : {es : List Pending} {s s' handed : Cpu} {l : Lent} {pc vector : ℕ} {b : Storage} {answer : Outcome} → Reached es s l → Enters s l handed pc answer
    → answer ≡ completed s' vector b → TouchesNone (registers.address_of s'.r 7) es → Reached (pending handed pc (completed s' vector b) ∷ es) s' (lent b)
entry-to r enters e apart = entry r (rw e at enters) refl apart

work-to : {es : List Pending} {s s' : Cpu} {l l' : Lent} → Reached es s l → Fits s' l' → length l'.storage ≡ length l.storage → SameFrames es (memory_of l) (memory_of l')
    → Reached es s' l'
work-to r f n same = work r f.0 f.1 n same

return-to : {e : Pending} {es : List Pending} {s s' : Cpu} {l : Lent} {b : Storage} {answer : Outcome} → Reached (e ∷ es) s l → AtReturn (left_by e) s → Returns s l answer
    → answer ≡ completed s' 0 b → Reached es s' (lent b)
return-to r at_return_lem returns e = return r at_return_lem (rw e at returns)

to-deepest : Reached (third ∷ second ∷ first ∷ []) s7 m6
unfolding memory state memories.load memories.access memories.value_at word.plus registers.address_of
to-deepest =
    let begun : Reached [] s0 m0 = start facts.at_0.0 facts.at_0.1 in
    let in-a : Reached (first ∷ []) s1 m1 = entry-to begun (every_entry.trap-enters s0 m0 0 (omega arith) refl) answers_are.trap_0 tt in
    let d0-pushed : Reached (first ∷ []) s2 m2 = work-to in-a facts.at_2 refl (eight _ m1 m2 tt, tt) in
    let d1-pushed : Reached (first ∷ []) s3 m3 = work-to d0-pushed facts.at_3 refl (eight _ m2 m3 tt, tt) in
    let in_b : Reached (second ∷ first ∷ []) s4 m4 = entry-to d1-pushed (every_entry.trap-enters s3 m3 1 (omega arith) refl) answers_are.trap_1 (inl (omega arith), tt) in
    let pushed : Reached (second ∷ first ∷ []) s5 m5 = work-to in_b facts.at_5 refl (eight _ m4 m5 tt, (eight _ m4 m5 tt, tt)) in
    let nine : Reached (second ∷ first ∷ []) s6 m5 = work-to pushed facts.at_6 refl (λ j h. refl, (λ j h. refl, tt)) in
    entry-to nine (by-interrupt 29 5 (omega arith)) answers_are.interrupted (inl (omega arith), (inl (omega arith), tt))

to_last : Reached (first ∷ []) s11 m6
unfolding memory state memories.load memories.access memories.value_at
to_last =
    let in_b : Reached (second ∷ first ∷ []) s6 m6 = return-to to-deepest facts.third-returns by-rte answers_are.return_to_b in
    let popped : Reached (second ∷ first ∷ []) s8 m6 = work-to in_b facts.at_8 refl (λ j h. refl, (λ j h. refl, tt)) in
    let in-a : Reached (first ∷ []) s9 m6 = return-to popped facts.second-returns (by_word refl refl refl) answers_are.return_to_a in
    let d1-popped : Reached (first ∷ []) s10 m6 = work-to in-a facts.at_10 refl (λ j h. refl, tt) in
    work-to d1-popped facts.at_11 refl (λ j h. refl, tt)

pub nesting_example : NestingExample
unfolding memory state memories.load memories.access memories.value_at
nesting_example = record {
  answers = answers_are;
  deepest = to-deepest;
  last = to_last;
  back = entries_nest first [] s11 m6 (step s11 m6) to_last facts.first-returns (by_word refl refl refl);
}
