-- Each reply is given exactly when the document says. Document: "Numbered replies".
--
--   0  done; a step also gives the vector it entered, or 0
--   1  memory too long
--   2  state not admitted (AdmittedMeans says which are)
--   3  state stopped (step; run with budget left)
--   4  an access this call makes is not inside (those of a step are listed in Accesses and Effects)
--   5  never by now: every word is carried
--   6  level above 7, or accumulator number above 3
--   7  interrupt masked: level below 7 and at most the mask
--   8  block or file: first byte not 1
--   9  block or file: wrong length
--
-- Order: 9 when under five bytes, 8, 9, then 1, 2, 6, 7, 3, and then in the order the step comes to them. Assumes nothing.
use Rattle.std.specs.Prelude.{ℕ, ◌+◌, ◌-◌, ◌*◌, ◌/◌, ◌%◌, ◌^◌, ◌≤◌, ◌<◌, ◌≡◌, true, false, List, [], ◌∷◌, ◌↔◌, ◌⊎◌, length, get_or, Option, Some, None, IfSome}
use Rattle.std.specs.Int.Bits.{bit_and}
use Rattle.manual.specs.declared.Cpu.{Cpu}
use Rattle.manual.specs.declared.Size.TheVariants.{Word}
use Rattle.manual.specs.Word.{minus}
use Rattle.manual.specs.Registers.{address_of}
use Rattle.manual.specs.Memory.{Storage, Memory, storage_of, value_at, number_at}
use Rattle.manual.specs.Reply.{number_of, is_done, Outcome}
use Rattle.manual.specs.Admitted.{admitted}
use Rattle.manual.specs.Lent.{Lent, memory_of, lent_on, lent_refusal, first_refusal}
use Rattle.manual.specs.Exceptions.{exception, interrupt, rte, push32, pop32, set_sr_call, ipl, supervisor_call}
use Rattle.manual.specs.EmacCalls.{acc_get_call, acc_set_call, acc_phys_call, set_acc_phys_call, set_macsr_call}
use Rattle.manual.specs.Block.{read_block, store_block}
use Rattle.manual.specs.Image.{image_state, load_image}
use Rattle.instructions.specs.Step.{step}
use Rattle.instructions.specs.Run.{RunOutcome, run}
use Rattle.block.specs.Typed.{Typed}
use Rattle.demands.specs.Steps.{Steps}
use Rattle.demands.specs.Accesses.{wanted, Inside, Outside, SomeOutside, entry_at, return_at}
use Rattle.demands.specs.Effects.{vector_of, effect_of, accesses}

-- the number of an outcome's reply
abbrev pub numbered : Outcome → ℕ
numbered o = number_of o.stepped.reply

-- every number of storage is a byte
abbrev pub Bytes : Storage → Type 0
Bytes b = (j : ℕ) → get_or b j 0 < 256

-- what the types say of every state and every memory
abbrev pub Values : Cpu → Storage → Type 0
Values s b = Typed s × Bytes b

-- memory is too long: over 16,777,216 bytes
abbrev pub TooLong : Lent → Type 0
TooLong l = 0x100_0000 < length l.storage

-- no test of what is lent fails
abbrev pub Usable : Lent → Type 0
Usable l = is_done (lent_refusal l) ≡ true

-- no test fails that comes before the call begins
abbrev pub Ready : Cpu → Lent → Type 0
Ready s l = is_done (first_refusal s l) ≡ true

-- a reply is one of these numbers
abbrev pub OneOf : List ℕ → ℕ → Type 0
OneOf [] n = ⊥
OneOf (k ∷ ks) n = (n ≡ k) ⊎ OneOf ks n

-- what these words mean, and what it is to be inside
pub record Meanings : Type 0 where
  pub usable : (l : Lent) → Usable l ↔ (TooLong l → ⊥)
  pub ready : (s : Cpu) (l : Lent) → Ready s l ↔ (Usable l × (admitted s ≡ true))
  pub first_1 : (s : Cpu) (l : Lent) → (number_of (first_refusal s l) ≡ 1) ↔ TooLong l
  pub first_2 : (s : Cpu) (l : Lent) → (number_of (first_refusal s l) ≡ 2) ↔ (Usable l × (admitted s ≡ false))
  pub first_of : (s : Cpu) (l : Lent) → OneOf (0 ∷ 1 ∷ 2 ∷ []) (number_of (first_refusal s l))
  pub inside : (m : Memory) (a n : ℕ) → Inside m a n ↔ (a + n ≤ length (storage_of m))
  pub outside : (m : Memory) (a n : ℕ) → Outside m a n ↔ (length (storage_of m) < a + n)

-- the level of an entry: the mask is kept, or it is set to a level, which is at most 7
abbrev pub LevelBelow8 : Option ℕ → Type 0
LevelBelow8 level = IfSome level (λ n. n < 8)

-- the mask, SR bits 10 to 8, lets a level through: level 7 always, a lower one above the mask
abbrev pub LetThrough : ℕ → ℕ → Type 0
LetThrough sr level = (7 ≤ level) ⊎ (sr / 0x100 % 8 < level)

-- done: nothing stands against it. (Of the calls that make no access, 0 is what is left: NoOthers.)
pub record Reply0 : Type 0 where
  pub step_0 : (s : Cpu) (l : Lent)
      → let m : Memory = memory_of l in
      (numbered (step s l) ≡ 0) ↔ (Ready s l × ((s.stopped ≡ false) × (SomeOutside m (accesses s m) → ⊥)))
  -- a step also gives the vector it entered, or 0: that of its row (Effects)
  pub step-vector : (s : Cpu) (l : Lent) → numbered (step s l) ≡ 0 → (step s l).stepped.vector ≡ vector_of (effect_of s (memory_of l))
  -- a run: as many steps as the budget says can be done, one after the other
  pub run_0 : (budget : ℕ) (s : Cpu) (l : Lent)
      → (number_of (run budget s l).ran.reply ≡ 0) ↔ (Ready s l × ((s' : Cpu) × (l' : Lent) × Steps budget s l s' l'))
  pub exception_0 : (s : Cpu) (l : Lent) (vector pc : ℕ) (level : Option ℕ)
      → (numbered (exception s l vector pc level) ≡ 0) ↔ (Ready s l × (LevelBelow8 level × (SomeOutside (memory_of l) (entry_at s level vector) → ⊥)))
  pub interrupt_0 : (s : Cpu) (l : Lent) (vector level : ℕ)
      → (numbered (interrupt s l vector level) ≡ 0)
      ↔ (Ready s l × ((level < 8) × (LetThrough s.sr level × (SomeOutside (memory_of l) (entry_at s (Some level) vector) → ⊥))))
  pub rte_0 : (s : Cpu) (l : Lent) → (numbered (rte s l) ≡ 0) ↔ (Ready s l × (SomeOutside (memory_of l) (return_at s) → ⊥))
  pub push32_0 : (s : Cpu) (l : Lent) (v : ℕ) → (numbered (push32 s l v) ≡ 0) ↔ (Ready s l × Inside (memory_of l) (minus (address_of s.r 7) 4) 4)
  pub pop32_0 : (s : Cpu) (l : Lent) → (number_of (pop32 s l).reply ≡ 0) ↔ (Ready s l × Inside (memory_of l) (address_of s.r 7) 4)

pub record Reply1 : Type 0 where
  pub step_1 : (s : Cpu) (l : Lent) → (numbered (step s l) ≡ 1) ↔ TooLong l
  pub run_1 : (budget : ℕ) (s : Cpu) (l : Lent) → (number_of (run budget s l).ran.reply ≡ 1) ↔ TooLong l
  pub exception_1 : (s : Cpu) (l : Lent) (vector pc : ℕ) (level : Option ℕ) → (numbered (exception s l vector pc level) ≡ 1) ↔ TooLong l
  pub interrupt_1 : (s : Cpu) (l : Lent) (vector level : ℕ) → (numbered (interrupt s l vector level) ≡ 1) ↔ TooLong l
  pub rte_1 : (s : Cpu) (l : Lent) → (numbered (rte s l) ≡ 1) ↔ TooLong l
  pub push32_1 : (s : Cpu) (l : Lent) (v : ℕ) → (numbered (push32 s l v) ≡ 1) ↔ TooLong l
  pub pop32_1 : (s : Cpu) (l : Lent) → (number_of (pop32 s l).reply ≡ 1) ↔ TooLong l

pub record Reply2 : Type 0 where
  pub step_2 : (s : Cpu) (l : Lent) → (numbered (step s l) ≡ 2) ↔ (Usable l × (admitted s ≡ false))
  pub run_2 : (budget : ℕ) (s : Cpu) (l : Lent) → (number_of (run budget s l).ran.reply ≡ 2) ↔ (Usable l × (admitted s ≡ false))
  pub exception_2 : (s : Cpu) (l : Lent) (vector pc : ℕ) (level : Option ℕ)
      → (numbered (exception s l vector pc level) ≡ 2) ↔ (Usable l × (admitted s ≡ false))
  pub interrupt_2 : (s : Cpu) (l : Lent) (vector level : ℕ) → (numbered (interrupt s l vector level) ≡ 2) ↔ (Usable l × (admitted s ≡ false))
  pub rte_2 : (s : Cpu) (l : Lent) → (numbered (rte s l) ≡ 2) ↔ (Usable l × (admitted s ≡ false))
  pub push32_2 : (s : Cpu) (l : Lent) (v : ℕ) → (numbered (push32 s l v) ≡ 2) ↔ (Usable l × (admitted s ≡ false))
  pub pop32_2 : (s : Cpu) (l : Lent) → (number_of (pop32 s l).reply ≡ 2) ↔ (Usable l × (admitted s ≡ false))
  pub set_sr_2 : (s : Cpu) (v : ℕ) → (number_of (set_sr_call s v).reply ≡ 2) ↔ (admitted s ≡ false)
  pub ipl_2 : (s : Cpu) → (number_of (ipl s).reply ≡ 2) ↔ (admitted s ≡ false)
  pub supervisor_2 : (s : Cpu) → (number_of (supervisor_call s).reply ≡ 2) ↔ (admitted s ≡ false)
  pub acc_get_2 : (s : Cpu) (i : ℕ) → (number_of (acc_get_call s i).reply ≡ 2) ↔ (admitted s ≡ false)
  pub acc_phys_2 : (s : Cpu) (i : ℕ) → (number_of (acc_phys_call s i).reply ≡ 2) ↔ (admitted s ≡ false)
  pub acc_set_2 : (s : Cpu) (i v : ℕ) → (number_of (acc_set_call s i v).reply ≡ 2) ↔ (admitted s ≡ false)
  pub set_acc_phys_2 : (s : Cpu) (i acc ext : ℕ) → (number_of (set_acc_phys_call s i acc ext).reply ≡ 2) ↔ (admitted s ≡ false)
  pub set_macsr_2 : (s : Cpu) (v : ℕ) → (number_of (set_macsr_call s v).reply ≡ 2) ↔ (admitted s ≡ false)

-- a run: with budget left, in the state after the steps that were done
pub record Reply3 : Type 0 where
  pub step_3 : (s : Cpu) (l : Lent) → (numbered (step s l) ≡ 3) ↔ (Ready s l × (s.stopped ≡ true))
  pub run_3 : (budget : ℕ) (s : Cpu) (l : Lent)
      → (number_of (run budget s l).ran.reply ≡ 3) ↔ (Ready s l × (((run budget s l).ran.count < budget) × ((run budget s l).ran.cpu.stopped ≡ true)))

-- some access of the call is not inside. An entry stores two longs and reads the vector, a return reads two longs
pub record Reply4 : Type 0 where
  pub exception_4 : (s : Cpu) (l : Lent) (vector pc : ℕ) (level : Option ℕ)
      → (numbered (exception s l vector pc level) ≡ 4) ↔ (Ready s l × (LevelBelow8 level × SomeOutside (memory_of l) (entry_at s level vector)))
  pub interrupt_4 : (s : Cpu) (l : Lent) (vector level : ℕ)
      → (numbered (interrupt s l vector level) ≡ 4)
      ↔ (Ready s l × ((level < 8) × (LetThrough s.sr level × SomeOutside (memory_of l) (entry_at s (Some level) vector))))
  pub rte_4 : (s : Cpu) (l : Lent) → (numbered (rte s l) ≡ 4) ↔ (Ready s l × SomeOutside (memory_of l) (return_at s))
  pub push32_4 : (s : Cpu) (l : Lent) (v : ℕ) → (numbered (push32 s l v) ≡ 4) ↔ (Ready s l × Outside (memory_of l) (minus (address_of s.r 7) 4) 4)
  pub pop32_4 : (s : Cpu) (l : Lent) → (number_of (pop32 s l).reply ≡ 4) ↔ (Ready s l × Outside (memory_of l) (address_of s.r 7) 4)
  -- a step: the fetch of its word, the reads of the word's row, and the stores and reads of the row's effect
  pub step_4 : (s : Cpu) (l : Lent) → (numbered (step s l) ≡ 4) ↔ (Ready s l × ((s.stopped ≡ false) × SomeOutside (memory_of l) (accesses s (memory_of l))))
  -- a run: with budget left, some access of the next step is not inside, in the state and memory after the steps that were done
  pub run_4 : (budget : ℕ) (s : Cpu) (l : Lent)
      → let r : RunOutcome = run budget s l in
      let m : Memory = memory_of (lent_on l r.storage) in
      (number_of r.ran.reply ≡ 4)
      ↔ (Ready s l × ((r.ran.count < budget) × ((r.ran.cpu.stopped ≡ false) × SomeOutside m (accesses r.ran.cpu m))))
  -- an instruction that reads nothing and leaves nothing to be done has no access but the fetch of its word: NOP, BITREV
  pub nop-fetched : (s : Cpu) (m : Memory) → number_at m s.pc Word ≡ 0x4E71 → accesses s m ≡ wanted s.pc 2 ∷ []
  pub bitrev-fetched : (s : Cpu) (m : Memory) (r : ℕ) → r < 8 → number_at m s.pc Word ≡ 0x00C0 + r → accesses s m ≡ wanted s.pc 2 ∷ []

-- no step and no run gives it, whatever the state, memory and word
pub record Reply5 : Type 0 where
  pub step_5 : (s : Cpu) (l : Lent) → numbered (step s l) ≡ 5 → ⊥
  pub run_5 : (budget : ℕ) (s : Cpu) (l : Lent) → number_of (run budget s l).ran.reply ≡ 5 → ⊥

pub record Reply6 : Type 0 where
  pub exception_6 : (s : Cpu) (l : Lent) (vector pc level : ℕ) → (numbered (exception s l vector pc (Some level)) ≡ 6) ↔ (Ready s l × (8 ≤ level))
  pub exception_kept_6 : (s : Cpu) (l : Lent) (vector pc : ℕ) → numbered (exception s l vector pc None) ≡ 6 → ⊥
  pub interrupt_6 : (s : Cpu) (l : Lent) (vector level : ℕ) → (numbered (interrupt s l vector level) ≡ 6) ↔ (Ready s l × (8 ≤ level))
  pub acc_get_6 : (s : Cpu) (i : ℕ) → (number_of (acc_get_call s i).reply ≡ 6) ↔ ((admitted s ≡ true) × (4 ≤ i))
  pub acc_phys_6 : (s : Cpu) (i : ℕ) → (number_of (acc_phys_call s i).reply ≡ 6) ↔ ((admitted s ≡ true) × (4 ≤ i))
  pub acc_set_6 : (s : Cpu) (i v : ℕ) → (number_of (acc_set_call s i v).reply ≡ 6) ↔ ((admitted s ≡ true) × (4 ≤ i))
  pub set_acc_phys_6 : (s : Cpu) (i acc ext : ℕ) → (number_of (set_acc_phys_call s i acc ext).reply ≡ 6) ↔ ((admitted s ≡ true) × (4 ≤ i))

pub record Reply7 : Type 0 where
  pub interrupt_7 : (s : Cpu) (l : Lent) (vector level : ℕ)
      → (numbered (interrupt s l vector level) ≡ 7) ↔ (Ready s l × ((level < 7) × (level ≤ s.sr / 0x100 % 8)))

-- a block has 128 bytes, of which the first is 1 and the next four say 123
abbrev pub BlockForm : List ℕ → Type 0
BlockForm b = (length b ≡ 128) × (value_at b 0 1 ≡ 1) × (value_at b 1 4 ≡ 123)

-- MACSR says unsigned integers: FI, 0x20, is clear and SU, 0x40, is set
abbrev pub UnsignedMode : ℕ → Type 0
UnsignedMode macsr = (macsr / 0x20 % 2 ≡ 0) × (macsr / 0x40 % 2 ≡ 1)

-- a number of 64 bits, in two's complement, is not in 0 to 2^48-1, or in the other modes not in -2^47 to 2^47-1
abbrev pub NumberOut : ℕ → ℕ → Type 0
NumberOut macsr n = (UnsignedMode macsr × (2 ^ 48 ≤ n)) ⊎ ((UnsignedMode macsr → ⊥) × ((2 ^ 47 ≤ n) × (n < 2 ^ 64 - 2 ^ 47)))

-- SR, MACSR, the number of an accumulator or the last byte of a block is out of its range
pub data OutOfRanges (b : List ℕ) : Type 0 where
  sr-bit : (bit_and (value_at b 73 2) 0xB71F ≡ value_at b 73 2 → ⊥) → OutOfRanges b
  macsr-above : 0xFFF < value_at b 87 4 → OutOfRanges b
  number-out : (i : ℕ) → i < 4 → NumberOut (value_at b 87 4) (value_at b (95 + i * 8) 8) → OutOfRanges b
  last-above : 1 < value_at b 127 1 → OutOfRanges b

pub record Reply8And9 : Type 0 where
  pub read_block_9 : (b : List ℕ)
      → (number_of (read_block b).reply ≡ 9) ↔ ((length b < 5) ⊎ ((5 ≤ length b) × ((value_at b 0 1 ≡ 1) × ((length b ≡ 128) × (value_at b 1 4 ≡ 123) → ⊥))))
  pub read_block_8 : (b : List ℕ) → (number_of (read_block b).reply ≡ 8) ↔ ((5 ≤ length b) × (value_at b 0 1 ≡ 1 → ⊥))
  pub read_block_2 : (b : List ℕ) → (number_of (read_block b).reply ≡ 2) ↔ (BlockForm b × OutOfRanges b)
  -- so it is read, with 0, exactly when it has the form and no number is out of its range
  pub read_block_0 : (b : List ℕ) → (number_of (read_block b).reply ≡ 0) ↔ (BlockForm b × (OutOfRanges b → ⊥))
  pub store_block_9 : (s : Cpu) (b : List ℕ) → (number_of (store_block s b).reply ≡ 9) ↔ (length b ≡ 128 → ⊥)
  pub store_block_2 : (s : Cpu) (b : List ℕ) → (number_of (store_block s b).reply ≡ 2) ↔ ((length b ≡ 128) × (admitted s ≡ false))
  -- an image file says how many bytes follow its first five, 14 to 49,166, and is read into a memory of 49,152 bytes
  pub load_image_9 : (f : List ℕ) (m : Storage)
      → let l : ℕ = value_at f 1 4 in
      (number_of (load_image f m).reply ≡ 9)
      ↔ ((length f < 5) ⊎ ((5 ≤ length f) × ((value_at f 0 1 ≡ 1) × ((14 ≤ l) × ((l ≤ 49166) × ((length f ≡ 5 + l) × (length m ≡ 49152))) → ⊥))))
  pub load_image_8 : (f : List ℕ) (m : Storage) → (number_of (load_image f m).reply ≡ 8) ↔ ((5 ≤ length f) × (value_at f 0 1 ≡ 1 → ⊥))
  pub load_image_2 : (f : List ℕ) (m : Storage)
      → let l : ℕ = value_at f 1 4 in
      (number_of (load_image f m).reply ≡ 2)
      ↔ ((5 ≤ length f) × ((value_at f 0 1 ≡ 1) × (((14 ≤ l) × ((l ≤ 49166) × ((length f ≡ 5 + l) × (length m ≡ 49152)))) × (admitted (image_state f) ≡ false))))

-- a call gives no other reply than these, so 0 exactly where it gives none of the others
pub record NoOthers : Type 0 where
  pub step_of : (s : Cpu) (l : Lent) → OneOf (0 ∷ 1 ∷ 2 ∷ 3 ∷ 4 ∷ []) (numbered (step s l))
  pub run_of : (budget : ℕ) (s : Cpu) (l : Lent) → OneOf (0 ∷ 1 ∷ 2 ∷ 3 ∷ 4 ∷ []) (number_of (run budget s l).ran.reply)
  pub exception_of : (s : Cpu) (l : Lent) (vector pc : ℕ) (level : Option ℕ) → OneOf (0 ∷ 1 ∷ 2 ∷ 4 ∷ 6 ∷ []) (numbered (exception s l vector pc level))
  pub interrupt_of : (s : Cpu) (l : Lent) (vector level : ℕ) → OneOf (0 ∷ 1 ∷ 2 ∷ 4 ∷ 6 ∷ 7 ∷ []) (numbered (interrupt s l vector level))
  pub rte_of : (s : Cpu) (l : Lent) → OneOf (0 ∷ 1 ∷ 2 ∷ 4 ∷ []) (numbered (rte s l))
  pub push32_of : (s : Cpu) (l : Lent) (v : ℕ) → OneOf (0 ∷ 1 ∷ 2 ∷ 4 ∷ []) (numbered (push32 s l v))
  pub pop32_of : (s : Cpu) (l : Lent) → OneOf (0 ∷ 1 ∷ 2 ∷ 4 ∷ []) (number_of (pop32 s l).reply)
  pub set_sr_of : (s : Cpu) (v : ℕ) → OneOf (0 ∷ 2 ∷ []) (number_of (set_sr_call s v).reply)
  pub ipl_of : (s : Cpu) → OneOf (0 ∷ 2 ∷ []) (number_of (ipl s).reply)
  pub supervisor_of : (s : Cpu) → OneOf (0 ∷ 2 ∷ []) (number_of (supervisor_call s).reply)
  pub acc_get_of : (s : Cpu) (i : ℕ) → OneOf (0 ∷ 2 ∷ 6 ∷ []) (number_of (acc_get_call s i).reply)
  pub acc_phys_of : (s : Cpu) (i : ℕ) → OneOf (0 ∷ 2 ∷ 6 ∷ []) (number_of (acc_phys_call s i).reply)
  pub acc_set_of : (s : Cpu) (i v : ℕ) → OneOf (0 ∷ 2 ∷ 6 ∷ []) (number_of (acc_set_call s i v).reply)
  pub set_acc_phys_of : (s : Cpu) (i acc ext : ℕ) → OneOf (0 ∷ 2 ∷ 6 ∷ []) (number_of (set_acc_phys_call s i acc ext).reply)
  pub set_macsr_of : (s : Cpu) (v : ℕ) → OneOf (0 ∷ 2 ∷ []) (number_of (set_macsr_call s v).reply)
  pub read-block_of : (b : List ℕ) → OneOf (0 ∷ 2 ∷ 8 ∷ 9 ∷ []) (number_of (read_block b).reply)
  pub store-block_of : (s : Cpu) (b : List ℕ) → OneOf (0 ∷ 2 ∷ 9 ∷ []) (number_of (store_block s b).reply)
  pub load_image_of : (f : List ℕ) (m : Storage) → OneOf (0 ∷ 2 ∷ 8 ∷ 9 ∷ []) (number_of (load_image f m).reply)
