-- The document's examples that were checked by hand, and those of line 8, of word operands and of MOVEC, as one table with a single
-- claim, by computation straight from the definition of a step, of `exception` and of `rte`. Document: "Checked by hand", the examples
-- marked *. The answers of the others were worked out by hand, N after an overflow, OR.B, reads by MOVEC and numbers that name no control
-- register as docs/DIFFERENCES.md has them (33, 23, 58, 60). Assumes nothing.
use Rattle.std.specs.Prelude.{ℕ, ◌+◌, ◌-◌, ◌*◌, ◌/◌, ◌%◌, ◌^◌, ◌≡◌, refl, false, cond, List, [], ◌∷◌, ◌++◌, map, get_or, set, replicate, None}
use Rattle.std.specs.Int.Count.{count_leading_zeros}
use Rattle.manual.specs.declared.Cpu.{Cpu}
use Rattle.manual.specs.declared.Size.TheVariants.{Long}
use Rattle.manual.specs.Reply.{number_of, Outcome}
use Rattle.manual.specs.Word as word
use Rattle.manual.specs.Bits as bits
use Rattle.manual.specs.Flags as flags
use Rattle.manual.specs.Registers as registers
use Rattle.manual.specs.Memory as memory
use Rattle.manual.specs.Memory.{Storage}
use Rattle.manual.specs.Address as address
use Rattle.manual.specs.Shift as shift
use Rattle.manual.specs.Divide as divide
use Rattle.manual.specs.Emac as emac
use Rattle.manual.specs.Admitted as admitted
use Rattle.manual.specs.Lent as lents
use Rattle.manual.specs.Lent.{Lent, lent, memory_of}
use Rattle.manual.specs.Change as change
use Rattle.manual.specs.Control as control
use Rattle.manual.specs.Exceptions as exceptions
use Rattle.instructions.specs.Rows.{row_of, place_in}
use Rattle.manual.specs.Block.{fresh}
use Rattle.instructions.specs.Line0 as l0
use Rattle.instructions.specs.Line4 as l4
use Rattle.instructions.specs.Line8 as l8
use Rattle.instructions.specs.Line9D as l9
use Rattle.instructions.specs.LineA as la
use Rattle.instructions.specs.LineC as lc
use Rattle.instructions.specs.LineE as le
use Rattle.instructions.specs.Perform.{perform}
use Rattle.instructions.specs.Step.{instruction, execute, step}

-- an example: what the definition gives, and what the document says, or was worked out by hand
pub record Example : Type 0 where
  pub given : List ℕ
  pub said : List ℕ

infix 3 ◌is◌
abbrev ◌is◌ : List ℕ → List ℕ → Example
x is y = record { given = x; said = y }

-- the condition codes
abbrev X : ℕ
X = 16

abbrev N : ℕ
N = 8

abbrev Z : ℕ
Z = 4

abbrev «V» : ℕ
«V» = 2

abbrev C : ℕ
C = 1

-- words, the high byte of each first
abbrev bytes_of : List ℕ → Storage
bytes_of [] = []
bytes_of (w ∷ ws) = (w / 0x100) ∷ (w % 0x100) ∷ bytes_of ws

-- a program at address 0
abbrev program : List ℕ → Lent
program words = lent (bytes_of words)

-- a state with these sixteen registers, status register, MACSR and accumulators, and the rest 0
abbrev state : List ℕ → ℕ → ℕ → List ℕ → Cpu
state g sr macsr acc = registers.with_all g 0 sr 0 (record { macsr = macsr; mask = 0; acc = acc }) false fresh

abbrev zeros : ℕ → List ℕ
zeros n = replicate n 0

-- the reply's number, D0, D1, D2 and the condition codes after one step of a program, from D0, D1, D2 and the condition codes
abbrev after : List ℕ → ℕ → ℕ → ℕ → ℕ → List ℕ
after words d0 d1 d2 codes =
    let o : Outcome = step (state (d0 ∷ d1 ∷ d2 ∷ zeros 13) (0x2700 + codes) 0 (zeros 4)) (program words) in
    number_of o.stepped.reply
    ∷ get_or o.stepped.cpu.r 0 0 ∷ get_or o.stepped.cpu.r 1 0 ∷ get_or o.stepped.cpu.r 2 0
    ∷ (o.stepped.cpu.sr % 0x20) ∷ []

-- the same for D3, A4 and the condition codes, from D3 and A3
abbrev after_d3_a3 : ℕ → ℕ → ℕ → List ℕ
after_d3_a3 word d3 a3 =
    let o : Outcome = step (state (set (set (zeros 16) 3 d3) 11 a3) 0x2700 0 (zeros 4)) (program (word ∷ [])) in
    number_of o.stepped.reply ∷ get_or o.stepped.cpu.r 3 0 ∷ get_or o.stepped.cpu.r 12 0 ∷ (o.stepped.cpu.sr % 0x20) ∷ []

-- the reply's number, whether the core is stopped, the byte at 2 and the condition codes after a word, from that byte, A0 being 2
abbrev after_byte : ℕ → ℕ → List ℕ
after_byte word byte =
    let o : Outcome = step (state (set (zeros 16) 8 2) 0x2700 0 (zeros 4)) (lent (bytes_of (word ∷ []) ++ (byte ∷ []))) in
    number_of o.stepped.reply ∷ cond o.stepped.cpu.stopped 1 0 ∷ get_or o.storage 2 0 ∷ (o.stepped.cpu.sr % 0x20) ∷ []

-- the reply's number and the accumulators 0 and 1 after one step of a program, from D0, A4, MACSR and accumulator 0
abbrev accumulated : List ℕ → ℕ → ℕ → ℕ → ℕ → List ℕ
accumulated words d0 a4 macsr acc0 =
    let o : Outcome = step (state (set (set (zeros 16) 0 d0) 12 a4) 0x2700 macsr (acc0 ∷ zeros 3)) (program words) in
    number_of o.stepped.reply ∷ get_or o.stepped.cpu.emac.acc 0 0 ∷ get_or o.stepped.cpu.emac.acc 1 0 ∷ []

-- the reply's number, the vector, the program counter in the frame and D0 after one step of a program, from D0, the other data registers
-- being 0; A7 is 0x20
abbrev entered_from : List ℕ → ℕ → List ℕ
entered_from words d0 =
    let o : Outcome = step (state (set (d0 ∷ zeros 15) 15 0x20) 0x2700 0 (zeros 4)) (lent (bytes_of words ++ zeros 0x20)) in
    number_of o.stepped.reply ∷ o.stepped.vector ∷ memory.value_at o.storage 0x1C 4 ∷ get_or o.stepped.cpu.r 0 0 ∷ []

-- the reply's number, VBR, CACR, D1 and A7 after one step of a program, from D0, D1 being 1, A7 0x40, VBR 0x00300003 and CACR 0x20
abbrev controlled : List ℕ → ℕ → List ℕ
controlled words d0 =
    let s : Cpu = registers.with_controls 0x0030_0003 0x20 (state (set (d0 ∷ 1 ∷ zeros 14) 15 0x40) 0x2700 0 (zeros 4)) in
    let t : Cpu = (step s (program words)).stepped.cpu in
    number_of (step s (program words)).stepped.reply ∷ t.vbr ∷ t.cacr ∷ get_or t.r 1 0 ∷ get_or t.r 15 0 ∷ []

-- an entry with A7, and then the return: A7, the frame's two longs, A7 and the program counter
abbrev undone : ℕ → ℕ → ℕ → ℕ → List ℕ
undone a7 sr vector pc =
    let s : Cpu = state (set (zeros 16) 15 a7) sr 0 (zeros 4) in
    let o : Outcome = exceptions.exception s (lent (zeros 0x110)) vector pc None in
    let l : Lent = lent o.storage in
    let at : ℕ = registers.address_of o.stepped.cpu.r 7 in
    let b : Outcome = exceptions.rte o.stepped.cpu l in
    at ∷ memory.number_at (memory_of l) at Long ∷ memory.number_at (memory_of l) (at + 4) Long
    ∷ registers.address_of b.stepped.cpu.r 7 ∷ b.stepped.cpu.pc ∷ []

pub examples : List Example
examples =
    -- ADD.L 0xFFFFFFFB+5: 0, XZC. ADD.B 0x7F+1: 0x80, NV. SUB.B 0-1: 0xFF, XNC
    ((after (0xD081 ∷ []) 0xFFFF_FFFB 5 0 0 is 0 ∷ 0 ∷ 5 ∷ 0 ∷ (X + Z + C) ∷ [])
    ∷ (after (0xD001 ∷ []) 0x7F 1 0 0 is 0 ∷ 0x80 ∷ 1 ∷ 0 ∷ (N + «V») ∷ [])
    ∷ (after (0x9001 ∷ []) 0 1 0 0 is 0 ∷ 0xFF ∷ 1 ∷ 0 ∷ (X + N + C) ∷ [])
    -- LSL of 1 by 32: 0, XZC; by 33: 0, Z only. ASR of 0x80000000 by 40: 0xFFFFFFFF, XNC
    ∷ (after (0xE3A8 ∷ []) 1 32 0 0 is 0 ∷ 0 ∷ 32 ∷ 0 ∷ (X + Z + C) ∷ [])
    ∷ (after (0xE3A8 ∷ []) 1 33 0 0 is 0 ∷ 0 ∷ 33 ∷ 0 ∷ Z ∷ [])
    ∷ (after (0xE2A0 ∷ []) 0x8000_0000 40 0 0 is 0 ∷ 0xFFFF_FFFF ∷ 40 ∷ 0 ∷ (X + N + C) ∷ [])
    -- count 0 keeps X and clears C
    ∷ (after (0xE3A8 ∷ []) 1 0 0 (X + C) is 0 ∷ 1 ∷ 0 ∷ 0 ∷ X ∷ [])
    ∷ (after (0xE3A8 ∷ []) 1 0 0 C is 0 ∷ 1 ∷ 0 ∷ 0 ∷ 0 ∷ [])
    -- signed long divide 0x80000000 by -1: registers kept, V set, C and Z clear, N and X kept
    ∷ (after (0x4C41 ∷ 0x0800 ∷ []) 0x8000_0000 0xFFFF_FFFF 0 (X + N + Z + C) is 0 ∷ 0x8000_0000 ∷ 0xFFFF_FFFF ∷ 0 ∷ (X + N + «V») ∷ [])
    ∷ (after (0x4C41 ∷ 0x0800 ∷ []) 0x8000_0000 0xFFFF_FFFF 0 (Z + C) is 0 ∷ 0x8000_0000 ∷ 0xFFFF_FFFF ∷ 0 ∷ «V» ∷ [])
    -- REMS -7 by 2 into another register: -1, N from quotient -3
    ∷ (after (0x4C41 ∷ 0x0802 ∷ []) 0xFFFF_FFF9 2 0 0 is 0 ∷ 0xFFFF_FFF9 ∷ 2 ∷ 0xFFFF_FFFF ∷ N ∷ [])
    -- DIVU.W 0x10000 by 2: the quotient 0x8000 fits, and N is its bit 15. DIVS.W: it is no signed word
    ∷ (after (0x80C1 ∷ []) 0x1_0000 2 0 X is 0 ∷ 0x8000 ∷ 2 ∷ 0 ∷ (X + N) ∷ [])
    ∷ (after (0x81C1 ∷ []) 0x1_0000 2 0 (X + N + Z + C) is 0 ∷ 0x1_0000 ∷ 2 ∷ 0 ∷ (X + N + «V») ∷ [])
    -- DIVU.W 0x20000 by 2: the quotient is no word. 1 by 2: remainder 1, and Z of quotient 0, though D0 is not 0
    ∷ (after (0x80C1 ∷ []) 0x2_0000 2 0 (Z + C) is 0 ∷ 0x2_0000 ∷ 2 ∷ 0 ∷ «V» ∷ [])
    ∷ (after (0x80C1 ∷ []) 1 2 0 0 is 0 ∷ 0x1_0000 ∷ 2 ∷ 0 ∷ Z ∷ [])
    -- DIVS.W 0x80000000 by -1: D0 kept, V set. By -0x8000, all of D1 but its low word ignored: 0x10000, too large as well
    ∷ (after (0x81C1 ∷ []) 0x8000_0000 0xFFFF 0 (Z + C) is 0 ∷ 0x8000_0000 ∷ 0xFFFF ∷ 0 ∷ «V» ∷ [])
    ∷ (after (0x81C1 ∷ []) 0x8000_0000 0x1_8000 0 0 is 0 ∷ 0x8000_0000 ∷ 0x1_8000 ∷ 0 ∷ «V» ∷ [])
    -- DIVS.W -7 by 2: remainder -1, quotient -3. 7 by -2: remainder 1, quotient -3. -0x8000 is the lowest quotient
    ∷ (after (0x81C1 ∷ []) 0xFFFF_FFF9 2 0 0 is 0 ∷ 0xFFFF_FFFD ∷ 2 ∷ 0 ∷ N ∷ [])
    ∷ (after (0x81C1 ∷ []) 7 0xFFFE 0 0 is 0 ∷ 0x1_FFFD ∷ 0xFFFE ∷ 0 ∷ N ∷ [])
    ∷ (after (0x81C1 ∷ []) 0xFFFF_8000 1 0 0 is 0 ∷ 0x8000 ∷ 1 ∷ 0 ∷ N ∷ [])
    -- DIVU.W and DIVS.W by 0 enter vector 5 with the next instruction's program counter, and keep D0
    ∷ (entered_from (0x80C1 ∷ []) 7 is 0 ∷ 5 ∷ 2 ∷ 7 ∷ [])
    ∷ (entered_from (0x81FC ∷ 0 ∷ []) 7 is 0 ∷ 5 ∷ 4 ∷ 7 ∷ [])
    -- OR.B keeps the upper 24 bits, and N is bit 7 of the result
    ∷ (after (0x8001 ∷ []) 0x1234_5601 0xFF80 0 (X + Z + «V» + C) is 0 ∷ 0x1234_5681 ∷ 0xFF80 ∷ 0 ∷ (X + N) ∷ [])
    ∷ (after (0x8001 ∷ []) 0x8000_8000 0xFF00 0 0 is 0 ∷ 0x8000_8000 ∷ 0xFF00 ∷ 0 ∷ Z ∷ [])
    -- FF1 of 0 is 32; of 0x00800000 is 8
    ∷ (after (0x04C0 ∷ []) 0 0 0 0 is 0 ∷ 32 ∷ 0 ∷ 0 ∷ Z ∷ [])
    ∷ (after (0x04C0 ∷ []) 0x0080_0000 0 0 0 is 0 ∷ 8 ∷ 0 ∷ 0 ∷ 0 ∷ [])
    -- fractional product 0x80000000 squared: +2^39, added to an accumulator that is 0
    ∷ (accumulated (0xA000 ∷ 0x0800 ∷ []) 0x8000_0000 0 0x20 0 is 0 ∷ (2 ^ 39) ∷ 0 ∷ [])
    -- MAC.W of A4 and D0, of their halves 5, 7 and 2, 3: lower by lower, the upper of A4, the upper of D0, upper by upper
    ∷ (accumulated (0xA00C ∷ 0x0000 ∷ []) 0x0002_0003 0x0005_0007 0 0 is 0 ∷ 21 ∷ 0 ∷ [])
    ∷ (accumulated (0xA00C ∷ 0x0040 ∷ []) 0x0002_0003 0x0005_0007 0 0 is 0 ∷ 15 ∷ 0 ∷ [])
    ∷ (accumulated (0xA00C ∷ 0x0080 ∷ []) 0x0002_0003 0x0005_0007 0 0 is 0 ∷ 14 ∷ 0 ∷ [])
    ∷ (accumulated (0xA00C ∷ 0x00C0 ∷ []) 0x0002_0003 0x0005_0007 0 0 is 0 ∷ 10 ∷ 0 ∷ [])
    -- FFFF by 3: -3 of signed integers, 2FFFD of unsigned ones, -3 / 2^30 of fractions; 8000 by itself: +2^39 of fractions
    ∷ (accumulated (0xA00C ∷ 0x0080 ∷ []) 0xFFFF_0001 0x0001_0003 0 0 is 0 ∷ (2 ^ 48 - 3) ∷ 0 ∷ [])
    ∷ (accumulated (0xA00C ∷ 0x0080 ∷ []) 0xFFFF_0001 0x0001_0003 0x40 0 is 0 ∷ 0x2_FFFD ∷ 0 ∷ [])
    ∷ (accumulated (0xA00C ∷ 0x0080 ∷ []) 0xFFFF_0001 0x0001_0003 0x20 0 is 0 ∷ (2 ^ 48 - 3 * 2 ^ 9) ∷ 0 ∷ [])
    ∷ (accumulated (0xA000 ∷ 0x0000 ∷ []) 0x7FFF_8000 0 0x20 0 is 0 ∷ (2 ^ 39) ∷ 0 ∷ [])
    -- MOVEC D0,VBR keeps bits 31 to 20. MOVEC D0,CACR keeps all 32, and A7 stays where bit 5 goes
    ∷ (controlled (0x4E7B ∷ 0x0801 ∷ []) 0x1234_5678 is 0 ∷ 0x1230_0000 ∷ 0x20 ∷ 1 ∷ 0x40 ∷ [])
    ∷ (controlled (0x4E7B ∷ 0x0002 ∷ []) 0x1234_5618 is 0 ∷ 0x0030_0003 ∷ 0x1234_5618 ∷ 1 ∷ 0x40 ∷ [])
    -- MOVEC VBR,D1 reads the low bits that a block can bring. MOVEC CACR,A7: bit 15 of the second word is A's
    ∷ (controlled (0x4E7A ∷ 0x1801 ∷ []) 0 is 0 ∷ 0x0030_0003 ∷ 0x20 ∷ 0x0030_0003 ∷ 0x40 ∷ [])
    ∷ (controlled (0x4E7A ∷ 0xF002 ∷ []) 0 is 0 ∷ 0x0030_0003 ∷ 0x20 ∷ 1 ∷ 0x20 ∷ [])
    -- MOVEC D0 to 0x800 and from 0x802 enters vector 4 with the word's program counter
    ∷ (entered_from (0x4E7B ∷ 0x0800 ∷ []) 7 is 0 ∷ 4 ∷ 0 ∷ 7 ∷ [])
    ∷ (entered_from (0x4E7A ∷ 0x0802 ∷ []) 7 is 0 ∷ 4 ∷ 0 ∷ 7 ∷ [])
    -- A7 0x103, SR 0x2700, vector 32: frame at 0xF8, first long 0x70802700, A7 0xF8; return gives 0x103
    ∷ (undone 0x103 0x2700 32 0x1234 is 0xF8 ∷ 0x7080_2700 ∷ 0x1234 ∷ 0x103 ∷ 0x1234 ∷ [])
    -- 49C3 is EXTB: D3's low byte is extended. 49D3 is LEA: A4 gets A3
    ∷ (after_d3_a3 0x49C3 0x1280 0x5678 is 0 ∷ 0xFFFF_FF80 ∷ 0 ∷ N ∷ [])
    ∷ (after_d3_a3 0x49D3 0x1280 0x5678 is 0 ∷ 0x1280 ∷ 0x5678 ∷ 0 ∷ [])
    -- 4AC8 is HALT: the core stops. 4AD0 is TAS: bit 7 of the byte at (A0) is set, and Z says that it was 0
    ∷ (after_byte 0x4AC8 0 is 0 ∷ 1 ∷ 0 ∷ 0 ∷ [])
    ∷ (after_byte 0x4AD0 0 is 0 ∷ 0 ∷ 0x80 ∷ Z ∷ [])
    -- A110 is a copy, of ACC0 to itself; A310, the same with ACC1 in its destination's bits, copies ACC0 there
    ∷ (accumulated (0xA110 ∷ []) 0 0 0 7 is 0 ∷ 7 ∷ 0 ∷ [])
    ∷ (accumulated (0xA310 ∷ []) 0 0 0 7 is 0 ∷ 7 ∷ 7 ∷ [])
    -- A114 is a write from (A4): ACC0 gets the long there
    ∷ (accumulated (0xA114 ∷ 0 ∷ 0x1234 ∷ 0x5678 ∷ []) 0 4 0 7 is 0 ∷ 0x1234_5678 ∷ 0 ∷ [])
    ∷ [])

pub checked_by_hand : map (λ x. x.given) examples ≡ map (λ x. x.said) examples
unfolding examples step execute bits.with_bit instruction perform row_of place_in admitted.admitted admitted.status admitted.emac_admitted memory.load memory.value_at memory.store_at memory.storing memory.stored word.cut word.merged word.plus word.minus word.size_of word.signed_at word.sign_extended registers.data_of registers.address_of registers.general registers.no_write registers.write_data registers.write_address registers.write_general registers.written registers.with_parts registers.with_address registers.with_pc registers.with_sr registers.with_registers registers.with_vbr registers.with_cacr registers.with_stopped registers.with_emac registers.coded registers.applied address.operand address.extension address.source address.value address.fetch address.locate address.immediate address.moved address.control address.destination_of change.done change.acting change.enter_after change.enter change.illegal change.store change.put change.put_to flags.codes flags.kept_codes flags.move_codes flags.added flags.subtracted flags.sum_or_difference flags.sum_codes l9.sums l9.add_to_data le.line_e le.shift le.shifted le.shift_count shift.shifted_left shift.signed_shifted_right shift.shift_codes l4.line4 l4.div_l l4.divided l4.extb l4.lea l4.halt l4.tas l4.movec control.control_register control.movec_read control.movec_write control.control_moved l8.line8 l8.div_w l8.word_divided lc.logic_to_data bits.logic divide.quotient divide.signed_quotient divide.word_quotient divide.signed_word_quotient divide.overflow_codes l0.line0 l0.ff1 count_leading_zeros la.line_a la.mac la.mac_registers la.operand la.move_to_emac la.setting la.move_acc_to_acc emac.mode_of emac.word_operand emac.acc_of emac.with_acc emac.with_sum emac.accumulate emac.set_acc emac.copy_acc exceptions.set_sr exceptions.handler_sr exceptions.frame_long exceptions.handler_state exceptions.entered exceptions.return_state exceptions.returned exceptions.exception exceptions.rte fresh lents.lent_refusal lents.state_refusal lents.first_refusal memory.access
checked_by_hand = refl
