-- Exceptions: entry, return, interrupts, and the calls on the stack and the status register.
-- The manual: "Exception Processing Overview", "Exception Stack Frame Definition" and RTE.
use Rattle.manual.specs.declared.Fault.{Fault}
use Rattle.std.specs.Prelude.{ℕ, ◌+◌, ◌*◌, ◌/◌, ◌%◌, Result, Option, Ok, Err, Some, None}
use mathlib.Core.{Bool.Bool, Bool.true, Bool.false, Bool.cond, Bool.not, Bool.◌&&◌, Bool.beq}
use lib.{Dec.ltb, Dec.leb}
use Rattle.manual.specs.declared.{Cpu.Cpu, Size.TheVariants.Long, Reply.Reply, Reply.TheVariants.Done}
use Rattle.manual.specs.declared.{Reply.TheVariants.NotAdmitted, Reply.TheVariants.OutOfRange, Reply.TheVariants.Masked, Answer.Answer, Told.Told, Popped.Popped}
use Rattle.manual.specs.{Word.bit, Word.plus, Word.minus, Bits.bit_of, Bits.with_bit, Fields.bits, Registers.address_of, Registers.with_address, Registers.with_pc, Registers.with_sr, Registers.with_other, Registers.with_stopped}
use Rattle.manual.specs.{Memory.Storage, Memory.Memory, Memory.storage_of, Memory.value_at, Memory.store_at, Memory.access, Memory.load, Memory.storing, Memory.stored, Reply.Outcome, Reply.completed, Reply.unchanged, Reply.fault_reply}
use Rattle.manual.specs.{Reply.is_done, Reply.accessing, Reply.loading, Reply.taking, Admitted.status, Admitted.admitted, Lent.Lent, Lent.memory_of, Lent.first_refusal, Lent.checked, Differences.kept_m, Differences.frame_bytes}
use Rattle.manual.specs.{Differences.vector_place, Differences.given_level}

-- ---- the status register

-- S, bit 13
abbrev pub supervisor : ℕ → Bool
supervisor sr = bit_of 13 sr

-- the interrupt mask, bits 10 to 8
abbrev pub mask_of : ℕ → ℕ
mask_of sr = bits 10 8 sr

-- CACR bit 5: there are two stack pointers
abbrev pub two_stacks : Cpu → Bool
two_stacks s = bit_of 5 s.cacr

-- a new status register. Where there are two stack pointers and S changes, A7 and the other change places
unfoldable pub set_sr : ℕ → Cpu → Cpu
set_sr v s =
    cond (two_stacks s && not (beq (supervisor (status v)) (supervisor s.sr)))
    (with_sr (status v) (with_other (address_of s.r 7) (with_address 7 s.other s)))
    (with_sr (status v) s)

-- another interrupt mask
abbrev pub with_mask : ℕ → ℕ → ℕ
with_mask sr mask = sr / 0x800 * 0x800 + mask + sr % 0x100

-- the status register in a handler: S is set and T cleared; an interrupt sets the mask to its level too
unfoldable pub handler_sr : Option ℕ → ℕ → ℕ
handler_sr None sr = with_bit 13 true (with_bit 15 false sr)
handler_sr (Some level) sr = with_mask (kept_m (with_bit 13 true (with_bit 15 false sr))) (given_level level)

-- ---- the frame: two longs at a multiple of 4, the lower one with the format, the vector and the status register

unfoldable pub frame_long : ℕ → ℕ → ℕ → ℕ
frame_long sp vector sr = (4 + sp % 4) * 0x1000_0000 + vector * 0x4_0000 + sr

-- where its two longs go, with A7 at sp
abbrev pub pc_place : ℕ → ℕ
pc_place sp = minus (sp / 4 * 4) 4

abbrev pub frame_place : ℕ → ℕ
frame_place sp = minus (pc_place sp) 4

-- storage with the frame, its two longs at the places `high` and `low`: the program counter first, then the long below it
abbrev pub framed : Storage → ℕ → ℕ → ℕ → ℕ → Storage
framed b high low pc w = store_at (store_at b high 4 pc) low 4 w

-- the registers in the handler: A7 is at the frame
-- 8. An entry wakes a core that HALT stopped. The manual: the debug port alone does
unfoldable pub handler_state : Cpu → ℕ → ℕ → Cpu
handler_state t frame handler = with_stopped false (with_pc handler (with_address 7 frame t))

-- ---- entry, from the registers s; `given` are those of a refusal. The frame is stored and then the vector read, so that a
-- frame over the vector's place is what is read. All three accesses are tested first
unfoldable pub entered : Cpu → Cpu → Option ℕ → ℕ → ℕ → Memory → Outcome
entered given s level vector pc m =
    let t : Cpu = set_sr (handler_sr level s.sr) s in
    let sp : ℕ = address_of t.r 7 in
    accessing given m (access m (pc_place sp) 4) λ high.
    accessing given m (access m (frame_place sp) 4) λ low.
    accessing given m (access m (vector_place s.vbr vector) 4) λ table.
    let b : Storage = framed (storage_of m) high low pc (frame_long sp vector s.sr) in
    completed (handler_state t (frame_place sp) (value_at b table 4)) vector b

-- ---- return: A7 goes up past the frame and by what the format says, then the status register and the program counter are the frame's

unfoldable pub return_state : Cpu → ℕ → ℕ → ℕ → Cpu
return_state s sp w pc = with_pc pc (set_sr w (with_address 7 (plus sp (frame_bytes (w / 0x1000_0000))) s))

unfoldable pub returned : Cpu → Cpu → Memory → Outcome
returned given s m =
    let sp : ℕ = address_of s.r 7 in
    loading given m (load m sp Long) λ w.
    loading given m (load m (plus sp 4) Long) λ pc.
    completed (return_state s sp w pc) 0 (storage_of m)

-- ---- the calls

abbrev pub level_taken : Option ℕ → Bool
level_taken None = true
level_taken (Some level) = ltb level 8

unfoldable pub exception : Cpu → Lent → ℕ → ℕ → Option ℕ → Outcome
exception s l vector pc level =
    let m : Memory = memory_of l in
    checked s l (cond (level_taken level) (entered s s level vector pc m) (unchanged s OutOfRange m))

-- level 7 is never masked; a lower one is at the mask or below it
unfoldable pub masked : ℕ → ℕ → Bool
masked sr level = ltb level 7 && leb level (mask_of sr)

-- 49. An interrupt is taken directly after an entry. The manual: not before the handler's first instruction is done
unfoldable pub interrupt : Cpu → Lent → ℕ → ℕ → Outcome
interrupt s l vector level =
    let m : Memory = memory_of l in
    checked s l
    (cond (ltb level 8)
    (cond (masked s.sr level) (unchanged s Masked m) (entered s s (Some level) vector s.pc m))
    (unchanged s OutOfRange m))

unfoldable pub rte : Cpu → Lent → Outcome
rte s l = checked s l (returned s s (memory_of l))

-- a push: A7 goes down by 4, and the long is stored there
unfoldable pub push32 : Cpu → Lent → ℕ → Outcome
push32 s l v =
    let m : Memory = memory_of l in
    let sp : ℕ = minus (address_of s.r 7) 4 in
    checked s l (taking s m (storing m sp Long) (completed (with_address 7 sp s) 0 (stored m sp Long v)))

abbrev pub not_popped : Cpu → Reply → Popped
not_popped s n = record { reply = n; value = 0; cpu = s }

-- the long at A7, which goes up by 4
abbrev pub popped : Cpu → ℕ → Result ℕ Fault → Popped
popped s sp (Ok v) = record { reply = Done; value = v; cpu = with_address 7 (plus sp 4) s }
popped s sp (Err x) = not_popped s (fault_reply x)

unfoldable pub pop32 : Cpu → Lent → Popped
pop32 s l =
    let sp : ℕ = address_of s.r 7 in
    let first : Reply = first_refusal s l in
    cond (is_done first) (popped s sp (load (memory_of l) sp Long)) (not_popped s first)

unfoldable pub set_sr_call : Cpu → ℕ → Answer
set_sr_call s v =
    cond (admitted s) (record { reply = Done; cpu = set_sr v s }) (record { reply = NotAdmitted; cpu = s })

-- a number of an admitted state
unfoldable pub told : Cpu → ℕ → Told
told s v = cond (admitted s) (record { reply = Done; value = v }) (record { reply = NotAdmitted; value = 0 })

abbrev pub ipl : Cpu → Told
ipl s = told s (mask_of s.sr)

abbrev pub supervisor_call : Cpu → Told
supervisor_call s = told s (bit (supervisor s.sr))
