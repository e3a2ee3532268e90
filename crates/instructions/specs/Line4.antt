-- Line 4: miscellaneous.
use Rattle.std.specs.Prelude.{ℕ, ◌+◌, ◌-◌, ◌*◌, ◌/◌, ◌%◌, Option, Some, None}
use mathlib.Core.{Bool.Bool, Bool.true, Bool.false, Bool.cond, List.List, List.[], List.◌∷◌}
use lib.{Dec.eqb, Dec.ltb}
use Rattle.manual.specs.declared.{Size.Size, Size.TheVariants.Byte, Size.TheVariants.Word, Size.TheVariants.Long, Source.Source, Write.Write, Change.Change, Sum.Sum, Quotient.Quotient, Action.Action, Action.TheVariants.Return}
use Rattle.manual.specs.declared.{Action.TheVariants.Status, Action.TheVariants.Stop, Action.TheVariants.PushStatus, Action.TheVariants.Halt, Action.TheVariants.SetOther, Action.TheVariants.StoreMany, Action.TheVariants.LoadMany}
use Rattle.manual.specs.declared.{Action.TheVariants.MoveControl, ControlRegister.ControlRegister}
use Rattle.manual.specs.{Word.plus, Word.minus, Word.cut, Word.merged, Word.sign_extended, Bits.bit_of, Bits.with_bit, Multiply.long_product, Multiply.signed_long_product, Divide.quotient, Divide.signed_quotient, Divide.overflow_codes}
use Rattle.manual.specs.{Registers.data_of, Registers.address_of, Registers.no_write, Registers.write_data, Registers.write_address, Flags.flag_x, Flags.flag_v, Flags.move_codes, Flags.kept_codes, Flags.sum_codes, Flags.extended_codes}
use Rattle.manual.specs.{Flags.subtracted, Exceptions.supervisor, Memory.Memory, Memory.load, Address.extension, Address.control, Address.destination, Address.operand_of, Change.reading_source, Change.done, Change.store}
use Rattle.manual.specs.{Change.acting, Change.enter, Change.enter_after, Change.illegal, Change.privilege, Change.jump, Change.push, Change.reading, Change.reaching, Change.put_to, Change.updating, Change.updated}
use Rattle.manual.specs.{Fields.upper, Fields.mode, Fields.register, Fields.size_field, Fields.low_four, Fields.high_four, Fields.control_field, Fields.bits, Control.control_register}
use Rattle.instructions.specs.{Rows.first_row, Rows.by_row}

-- ---- control

-- NOP: none. PULSE: a debug signal, which this core has not. Condition codes are not affected
unfoldable pub nop : ℕ → ℕ → Change
nop at sr = jump sr (plus at 2)

-- LEA.L <ea>y,Ax: <ea>y → Ax. Condition codes are not affected
unfoldable pub lea : List ℕ → ℕ → ℕ → Memory → ℕ → Change
lea g at sr m op =
    let pc : ℕ = plus at 2 in
    reaching sr at (control g m pc (operand_of op)) λ a.
    done (plus pc (extension (operand_of op) Long)) (kept_codes sr) no_write (write_address (upper op) a)

-- PEA.L <ea>y: SP - 4 → SP; <ea>y → (SP). Condition codes are not affected
unfoldable pub pea : List ℕ → ℕ → ℕ → Memory → ℕ → Change
pea g at sr m op =
    let pc : ℕ = plus at 2 in
    reaching sr at (control g m pc (operand_of op)) λ a.
    push g sr (plus pc (extension (operand_of op) Long)) a

-- JSR <ea>y: SP - 4 → SP; next PC → (SP); <ea>y → PC. Condition codes are not affected
unfoldable pub jsr : List ℕ → ℕ → ℕ → Memory → ℕ → Change
jsr g at sr m op =
    let pc : ℕ = plus at 2 in
    reaching sr at (control g m pc (operand_of op)) λ a.
    push g sr a (plus pc (extension (operand_of op) Long))

-- JMP <ea>y: <ea>y → PC. Condition codes are not affected
unfoldable pub jmp : List ℕ → ℕ → ℕ → Memory → ℕ → Change
jmp g at sr m op =
    reaching sr at (control g m (plus at 2) (operand_of op)) λ a.
    jump sr a

-- RTS: (SP) → PC; SP + 4 → SP. Condition codes are not affected
unfoldable pub rts : List ℕ → ℕ → Memory → Change
rts g sr m =
    let sp : ℕ = address_of g 7 in
    reading (load m sp Long) λ v.
    done v (kept_codes sr) (write_address 7 (plus sp 4)) no_write

-- TRAP #<vector>: vector 32 + bits 3 to 0, with the next PC in the frame. Condition codes are not affected
unfoldable pub trap : ℕ → ℕ → ℕ → Change
trap at sr op = enter sr (32 + low_four op) (plus at 2)

-- LINK.W Ay,#<displacement>: SP - 4 → SP; Ay → (SP); SP → Ay; SP + displacement → SP. Condition codes are not affected
-- 32. LINK A7 pushes A7 as it was before the decrement. The manual, read literally: as it is after
unfoldable pub link : List ℕ → ℕ → ℕ → Memory → ℕ → Change
link g at sr m op =
    let pc : ℕ = plus at 2 in
    let a : ℕ = address_of g (register op) in
    let sp : ℕ = minus (address_of g 7) 4 in
    reading (load m pc Word) λ d.
    store (plus pc 2) (kept_codes sr) (write_address (register op) sp) (write_address 7 (plus sp (sign_extended Word d))) sp Long a

-- UNLK Ax: Ax → SP; (SP) → Ax; SP + 4 → SP. Condition codes are not affected
-- 32. UNLK A7 leaves the popped long. The manual, read literally: 4 more
unfoldable pub unlk : List ℕ → ℕ → ℕ → Memory → ℕ → Change
unlk g at sr m op =
    let a : ℕ = address_of g (register op) in
    reading (load m a Long) λ v.
    done (plus at 2) (kept_codes sr) (write_address 7 (plus a 4)) (write_address (register op) v)

-- ---- the status register and the stack pointers. S: in user mode a privilege violation, vector 8

-- RTE (S): the frame at SP → SR, PC, and SP goes up past it. Condition codes are the frame's
unfoldable pub rte : ℕ → ℕ → Change
rte at sr = cond (supervisor sr) (acting sr (plus at 2) no_write Return) (privilege at sr)

-- STOP #<data> (S): immediate → SR; stop. Condition codes are the immediate's
-- 12. The word is fetched before the privilege test. The manual: the violation comes before any effect
unfoldable pub stop : ℕ → ℕ → Memory → Change
stop at sr m =
    let pc : ℕ = plus at 2 in
    reading (load m pc Word) λ v.
    cond (supervisor sr) (acting sr (plus pc 2) no_write (Stop v)) (privilege at sr)

-- STRLDSR #<data> (S), STLDSR in the document: SP - 4 → SP; zero-extended SR → (SP); immediate → SR. Condition codes are the immediate's
-- 12. Both words are fetched before the privilege test. The manual: the violation comes before any effect
-- 52. Where the second word is not 0x46FC: illegal, in user mode too. The manual: undefined
unfoldable pub stldsr : ℕ → ℕ → Memory → Change
stldsr at sr m =
    let pc : ℕ = plus at 2 in
    reading (load m pc Word) λ w.
    cond (eqb w 0x46FC)
    (reading (load m (plus pc 2) Word) λ v.
    cond (supervisor sr) (acting sr (plus pc 4) no_write (PushStatus v)) (privilege at sr))
    (illegal at sr)

-- HALT: stop. Condition codes are not affected
-- 8. HALT is not privileged. The manual: it is, unless CSR[UHE] is set
unfoldable pub halt : ℕ → ℕ → Change
halt at sr = acting sr (plus at 2) no_write Halt

-- MOVE.L Ay,USP (S): Ay → USP. Condition codes are not affected
-- 54. USP is the pointer that A7 is not, also where CACR bit 5 says that there is one alone. The manual does not say
unfoldable pub move_to_usp : List ℕ → ℕ → ℕ → ℕ → Change
move_to_usp g at sr op =
    cond (supervisor sr) (acting sr (plus at 2) no_write (SetOther (address_of g (register op)))) (privilege at sr)

-- MOVE.L USP,Ax (S): USP → Ax. Condition codes are not affected
unfoldable pub move_from_usp : ℕ → ℕ → ℕ → ℕ → Change
move_from_usp at sr other op =
    cond (supervisor sr) (done (plus at 2) (kept_codes sr) no_write (write_address (register op) other)) (privilege at sr)

-- MOVE.W SR,Dx (S): SR → Dx. Condition codes are not affected
-- 15. To anything but Dx it is a violation in user mode. The manual: illegal
unfoldable pub move_from_sr : List ℕ → ℕ → ℕ → ℕ → Change
move_from_sr g at sr op =
    cond (supervisor sr)
    (cond (eqb (mode op) 0)
    (done (plus at 2) (kept_codes sr) no_write (write_data (register op) (merged Word (data_of g (register op)) sr)))
    (illegal at sr))
    (privilege at sr)

-- MOVE.W <ea>y,SR (S): source → SR. Condition codes are the source's
-- 12. The operand is read before the privilege test, and (An)+ stays moved. The manual: the violation comes before any effect
-- 28, 46. From memory and from An too, here and to CCR. The manual: from Dn or an immediate
unfoldable pub move_to_sr : List ℕ → ℕ → ℕ → Memory → ℕ → Change
move_to_sr g at sr m op =
    reading_source g m (plus at 2) op Word λ from v.
    cond (supervisor sr) (acting sr from.next from.moved (Status v)) (enter_after from.moved sr 8 at)

-- MOVE.W CCR,Dx: CCR → Dx. Condition codes are not affected
unfoldable pub move_from_ccr : List ℕ → ℕ → ℕ → ℕ → Change
move_from_ccr g at sr op =
    done (plus at 2) (kept_codes sr) no_write (write_data (register op) (merged Word (data_of g (register op)) (kept_codes sr)))

-- MOVE.B <ea>y,CCR: source → CCR. Condition codes are the source's
unfoldable pub move_to_ccr : List ℕ → ℕ → Memory → ℕ → Change
move_to_ccr g at m op =
    reading_source g m (plus at 2) op Word λ from v.
    done from.next (kept_codes v) from.moved no_write

-- goes on with the control register that a number names; a number that names none is an illegal instruction
abbrev pub naming : ℕ → ℕ → Option ControlRegister → (ControlRegister → Change) → Change
naming sr at (Some c) f = f c
naming sr at None f = illegal at sr

-- MOVEC.L Ry,Rc (S): Ry → Rc, or Rc → Ry. Of the second word bits 15 to 12 are Ry, D0 to A7, and bits 11 to 0 Rc. Condition codes are not affected
-- 12. The word is fetched before the privilege test. The manual: the violation comes before any effect
-- 58. Rc → Ry, by 0x4E7A. The manual: MOVEC writes control registers alone, and the word is illegal
unfoldable pub movec : Bool → ℕ → ℕ → Memory → Change
movec writes at sr m =
    let pc : ℕ = plus at 2 in
    reading (load m pc Word) λ w.
    cond (supervisor sr)
    (naming sr at (control_register (control_field w)) λ c. acting sr (plus pc 2) no_write (MoveControl writes c (high_four w)))
    (privilege at sr)

-- ---- MOVEM.L #list,<ea>x and <ea>y,#list: the registers of a word, D0 in bit 0 and A7 in bit 15, one after the other from the address on.
-- Condition codes are not affected

-- the registers go to memory, or come from it
unfoldable pub many : Bool → ℕ → ℕ → Action
many to_memory mask a = cond to_memory (StoreMany mask a) (LoadMany mask a)

-- 15. Modes that MOVEM has not fetch the mask first. The manual: illegal
unfoldable pub movem : Bool → List ℕ → ℕ → ℕ → Memory → ℕ → Change
movem to_memory g at sr m op =
    let pc : ℕ = plus at 2 in
    let a : ℕ = address_of g (register op) in
    reading (load m pc Word) λ mask.
    cond (eqb (mode op) 2)
    (acting sr (plus pc 2) no_write (many to_memory mask a))
    (cond (eqb (mode op) 5)
    (reading (load m (plus pc 2) Word) λ d.
    acting sr (plus pc 4) no_write (many to_memory mask (plus a (sign_extended Word d))))
    (illegal at sr))

-- ---- one data register

-- EXTB.L Dx: the low byte, sign-extended → Dx. N, Z of the result; V, C cleared; X not affected
unfoldable pub extb : List ℕ → ℕ → ℕ → ℕ → Change
extb g at sr op =
    let v : ℕ = sign_extended Byte (data_of g (register op)) in
    done (plus at 2) (move_codes Long v sr) no_write (write_data (register op) v)

-- EXT.W Dx: the low byte, sign-extended to a word → low word of Dx. Condition codes as EXTB
unfoldable pub ext_w : List ℕ → ℕ → ℕ → ℕ → Change
ext_w g at sr op =
    let v : ℕ = cut Word (sign_extended Byte (data_of g (register op))) in
    done (plus at 2) (move_codes Word v sr) no_write (write_data (register op) (merged Word (data_of g (register op)) v))

-- EXT.L Dx: the low word, sign-extended → Dx. Condition codes as EXTB
unfoldable pub ext_l : List ℕ → ℕ → ℕ → ℕ → Change
ext_l g at sr op =
    let v : ℕ = sign_extended Word (data_of g (register op)) in
    done (plus at 2) (move_codes Long v sr) no_write (write_data (register op) v)

-- SWAP.W Dx: the two words of Dx change places. N, Z of the result; V, C cleared; X not affected
unfoldable pub swap : List ℕ → ℕ → ℕ → ℕ → Change
swap g at sr op =
    let d : ℕ = data_of g (register op) in
    let v : ℕ = d % 0x1_0000 * 0x1_0000 + d / 0x1_0000 in
    done (plus at 2) (move_codes Long v sr) no_write (write_data (register op) v)

-- after an overflow, the largest number of the sign that the value should have had
unfoldable pub saturated : ℕ → ℕ → ℕ
saturated sr v = cond (flag_v sr) (cond (ltb v 0x8000_0000) 0x8000_0000 0x7FFF_FFFF) v

-- SATS.L Dx: if V, saturated Dx → Dx. N, Z of the result; V, C cleared; X not affected
unfoldable pub sats : List ℕ → ℕ → ℕ → ℕ → Change
sats g at sr op =
    let v : ℕ = saturated sr (data_of g (register op)) in
    done (plus at 2) (move_codes Long v sr) no_write (write_data (register op) v)

-- NEG.L Dx: 0 - Dx → Dx. X, N, Z, V, C as SUB
unfoldable pub neg : List ℕ → ℕ → ℕ → Change
neg g at op =
    let r : Sum = subtracted Long (data_of g (register op)) 0 false in
    done (plus at 2) (sum_codes r) no_write (write_data (register op) r.value)

-- NEGX.L Dx: 0 - Dx - X → Dx. X, N, V, C as SUB; Z cleared if nonzero, else kept
unfoldable pub negx : List ℕ → ℕ → ℕ → ℕ → Change
negx g at sr op =
    let r : Sum = subtracted Long (data_of g (register op)) 0 (flag_x sr) in
    done (plus at 2) (extended_codes sr r) no_write (write_data (register op) r.value)

-- NOT.L Dx: ~Dx → Dx. N, Z of the result; V, C cleared; X not affected
unfoldable pub not : List ℕ → ℕ → ℕ → ℕ → Change
not g at sr op =
    let v : ℕ = 0xFFFF_FFFF - data_of g (register op) in
    done (plus at 2) (move_codes Long v sr) no_write (write_data (register op) v)

-- ---- one operand

-- CLR <ea>x: 0 → destination, which is not read. Z set; N, V, C cleared; X not affected
unfoldable pub clr : List ℕ → ℕ → ℕ → Memory → ℕ → Change
clr g at sr m op =
    let z : Size = size_field op in
    put_to g (move_codes z 0 sr) (destination g m (plus at 2) op z) z 0

-- TST <ea>y: the source is tested. N, Z of it; V, C cleared; X not affected
unfoldable pub tst : List ℕ → ℕ → ℕ → Memory → ℕ → Change
tst g at sr m op =
    let z : Size = size_field op in
    reading_source g m (plus at 2) op z λ from v.
    done from.next (move_codes z v sr) from.moved no_write

-- TAS.B <ea>x: the byte is tested; 1 → its bit 7. N, Z of the old byte; V, C cleared; X not affected
-- 26. Dn too. The manual: memory alone
unfoldable pub tas : List ℕ → ℕ → ℕ → Memory → ℕ → Change
tas g at sr m op = updating g m (plus at 2) op Byte λ v. updated (move_codes Byte v sr) (with_bit 7 true v)

-- ---- products and quotients of longs

-- goes on with the second word, the operand after it and the operand's value
abbrev pub with_word_and_long : List ℕ → ℕ → Memory → ℕ → (ℕ → Source → ℕ → Change) → Change
with_word_and_long g at m op f =
    let pc : ℕ = plus at 2 in
    reading (load m pc Word) λ w.
    reading_source g m (plus pc 2) op Long λ from v.
    f w from v

-- MULS.L, MULU.L <ea>y,Dx: source * Dx → Dx, its low 32 bits. N, Z of the result; V, C cleared; X not affected
abbrev pub mul_l_by : List ℕ → ℕ → ℕ → Source → ℕ → Change
mul_l_by g sr w from v =
    let d : ℕ = data_of g (bits 14 12 w) in
    let r : ℕ = cond (bit_of 11 w) (signed_long_product d v) (long_product d v) in
    done from.next (move_codes Long r sr) from.moved (write_data (bits 14 12 w) r)

unfoldable pub mul_l : List ℕ → ℕ → ℕ → Memory → ℕ → Change
mul_l g at sr m op = with_word_and_long g at m op (mul_l_by g sr)

-- DIVS.L, DIVU.L <ea>y,Dx: Dx / source → Dx. REMS.L, REMU.L <ea>y,Dw:Dx, where Dw is another: the remainder → Dw
unfoldable pub divided : ℕ → ℕ → ℕ → Option Quotient
divided w d v = cond (bit_of 11 w) (signed_quotient d v) (quotient d v)

abbrev pub quotient_to : ℕ → Quotient → Write
quotient_to w q = cond (eqb (bits 14 12 w) (register w)) (write_data (register w) q.quotient) (write_data (register w) q.remainder)

-- 1. A divide by zero has the next instruction's PC in its frame. The manual: the divide's
-- 44. And (An)+ stays moved. The manual: no register is affected
abbrev pub zero_divide : ℕ → Source → Change
zero_divide sr from = enter_after from.moved sr 5 from.next

-- what every divide leaves, v being its source and z the quotient's size: vector 5 where v is 0, else N, Z of the quotient and a
-- register; V set if the quotient does not fit, and then no register changes; C cleared; X not affected
abbrev pub with_quotient : Size → ℕ → Source → Option Quotient → (Quotient → Write) → Change
with_quotient z sr from (Some q) to = done from.next (move_codes z q.quotient sr) from.moved (to q)
with_quotient z sr from None to = done from.next (overflow_codes sr) from.moved no_write

abbrev pub dividing : Size → ℕ → Source → ℕ → Option Quotient → (Quotient → Write) → Change
dividing z sr from v found to = cond (eqb v 0) (zero_divide sr from) (with_quotient z sr from found to)

abbrev pub div_l_by : List ℕ → ℕ → ℕ → Source → ℕ → Change
div_l_by g sr w from v =
    dividing Long sr from v (divided w (data_of g (bits 14 12 w)) v) (quotient_to w)

unfoldable pub div_l : List ℕ → ℕ → ℕ → Memory → ℕ → Change
div_l g at sr m op = with_word_and_long g at m op (div_l_by g sr)

-- ---- the rows of the line

unfoldable pub line4 : ℕ → List ℕ → ℕ → ℕ → ℕ → Memory → ℕ → Change
line4 row g at sr other m op =
    by_row (first_row 4) row at sr
    (nop at sr ∷  -- 20 NOP 4E71/FFFF
    stop at sr m ∷  -- 21 STOP 4E72/FFFF
    rte at sr ∷  -- 22 RTE 4E73/FFFF
    rts g sr m ∷  -- 23 RTS 4E75/FFFF
    movec false at sr m ∷  -- 24 MOVEC_READ 4E7A/FFFF
    movec true at sr m ∷  -- 25 MOVEC_WRITE 4E7B/FFFF
    halt at sr ∷  -- 26 HALT 4AC8/FFFF
    nop at sr ∷  -- 27 PULSE 4ACC/FFFF
    illegal at sr ∷  -- 28 ILLEGAL 4AFC/FFFF
    stldsr at sr m ∷  -- 29 STLDSR 40E7/FFFF
    extb g at sr op ∷  -- 30 EXTB 49C0/FFF8
    link g at sr m op ∷  -- 31 LINK 4E50/FFF8
    unlk g at sr m op ∷  -- 32 UNLK 4E58/FFF8
    move_to_usp g at sr op ∷  -- 33 TO_USP 4E60/FFF8
    move_from_usp at sr other op ∷  -- 34 FROM_USP 4E68/FFF8
    move_from_ccr g at sr op ∷  -- 35 FROM_CCR 42C0/FFF8
    swap g at sr op ∷  -- 36 SWAP 4840/FFF8
    ext_w g at sr op ∷  -- 37 EXT_W 4880/FFF8
    ext_l g at sr op ∷  -- 38 EXT_L 48C0/FFF8
    sats g at sr op ∷  -- 39 SATS 4C80/FFF8
    negx g at sr op ∷  -- 40 NEGX 4080/FFF8
    neg g at op ∷  -- 41 NEG 4480/FFF8
    not g at sr op ∷  -- 42 NOT 4680/FFF8
    trap at sr op ∷  -- 43 TRAP 4E40/FFF0
    jsr g at sr m op ∷  -- 44 JSR 4E80/FFC0
    jmp g at sr m op ∷  -- 45 JMP 4EC0/FFC0
    move_from_sr g at sr op ∷  -- 46 FROM_SR 40C0/FFC0
    illegal at sr ∷  -- 47 ILL_42C0 42C0/FFC0
    move_to_ccr g at m op ∷  -- 48 TO_CCR 44C0/FFC0
    move_to_sr g at sr m op ∷  -- 49 TO_SR 46C0/FFC0
    pea g at sr m op ∷  -- 50 PEA 4840/FFC0
    movem true g at sr m op ∷  -- 51 MOVEM_STORE 48C0/FFC0
    movem false g at sr m op ∷  -- 52 MOVEM_LOAD 4CC0/FFC0
    mul_l g at sr m op ∷  -- 53 MUL_L 4C00/FFC0
    div_l g at sr m op ∷  -- 54 DIV_L 4C40/FFC0
    tas g at sr m op ∷  -- 55 TAS 4AC0/FFC0
    clr g at sr m op ∷  -- 56 CLR 4200/FF00
    tst g at sr m op ∷  -- 57 TST 4A00/FF00
    lea g at sr m op ∷  -- 58 LEA 41C0/F1C0
    illegal at sr ∷  -- 59 ILL_4 4000/F000
    [])
