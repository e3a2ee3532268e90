-- Line A: the EMAC's instructions and MOV3Q.
use Rattle.std.specs.Prelude.{ℕ, ◌+◌, ◌-◌, ◌*◌}
use mathlib.Core.{Bool.Bool, Bool.false, Bool.cond, List.List, List.[], List.◌∷◌}
use lib.{Dec.eqb, Dec.ltb, Bits.bit_and}
use Rattle.manual.specs.declared.{Size.TheVariants.Word, Size.TheVariants.Long, Write.Write, Change.Change, Emac.Emac, EmacPart.EmacPart, EmacPart.TheVariants.Acc, EmacPart.TheVariants.Ext, EmacPart.TheVariants.Macsr}
use Rattle.manual.specs.declared.{EmacPart.TheVariants.Mask, Action.Action, Action.TheVariants.Nothing, Action.TheVariants.Accumulate, Action.TheVariants.SetAcc, Action.TheVariants.SetExt, Action.TheVariants.SetMacsr}
use Rattle.manual.specs.declared.{Action.TheVariants.SetMask, Action.TheVariants.CopyAcc, Action.TheVariants.ClearAcc}
use Rattle.manual.specs.{Word.plus, Word.minus, Word.sign_extended, Bits.bit_of, Registers.address_of, Registers.general, Registers.no_write, Registers.write_address, Registers.write_general, Flags.codes, Flags.move_codes, Flags.kept_codes}
use Rattle.manual.specs.{Memory.Memory, Memory.load, Address.destination, Change.reading_source, Change.done, Change.acting, Change.enter, Change.enter_after, Change.reading, Change.put_to}
use Rattle.manual.specs.{Emac.mode_of, Emac.word_operand, Emac.acc_of, Emac.read_acc, Emac.read_ext, Emac.fractional, Fields.upper, Fields.mode, Fields.register, Fields.low_four, Fields.high_four, Fields.source_acc, Fields.acc_field, Fields.ext_field}
use Rattle.manual.specs.{Fields.mac_register, Fields.bits, Fields.word_operands}
use Rattle.instructions.specs.{Rows.first_row, Rows.by_row}

-- MOVE.L MACSR,CCR: MACSR's N, Z, V → N, Z, V; X, C cleared
unfoldable pub move_macsr_to_ccr : ℕ → ℕ → Change
move_macsr_to_ccr at macsr = done (plus at 2) (codes false (bit_of 3 macsr) (bit_of 2 macsr) (bit_of 1 macsr) false) no_write no_write

-- MOVE.L MACSR,Rx; MASK,Rx; ACCext01,Rx; ACCext23,Rx: source → Rx. Condition codes are not affected
unfoldable pub move_to_general : ℕ → ℕ → ℕ → ℕ → Change
move_to_general at sr op v = done (plus at 2) (kept_codes sr) no_write (write_general (low_four op) v)

-- MOVE.L ACCy,Rx: ACCy, rounded and saturated as the mode says → Rx. MOVCLR.L, where bit 6 is set: 0 → ACCy and PAVy after it.
-- Condition codes are not affected
unfoldable pub move_from_acc : ℕ → ℕ → Emac → ℕ → Change
move_from_acc at sr e op =
    let v : ℕ = read_acc (mode_of e.macsr) (acc_of e (acc_field op)) in
    acting sr (plus at 2) (write_general (low_four op) v) (cond (bit_of 6 op) (ClearAcc (acc_field op)) Nothing)

-- MOVE.L ACCy,ACCx: ACCy → ACCx. MACSR's N, Z, V, EV and PAVx; condition codes are not affected
unfoldable pub move_acc_to_acc : ℕ → ℕ → ℕ → Change
move_acc_to_acc at sr op = acting sr (plus at 2) no_write (CopyAcc (source_acc op) (acc_field op))

-- MOVE.L <ea>y,ACCx; ACCext01; ACCext23; MACSR; MASK: source → it. Condition codes are not affected
unfoldable pub setting : EmacPart → ℕ → ℕ → Action
setting Acc op v = SetAcc (acc_field op) v
setting Ext op v = SetExt (ext_field op) v
setting Macsr op v = SetMacsr v
setting Mask op v = SetMask v

-- 40. From every mode. The manual: from a register or an immediate
unfoldable pub move_to_emac : EmacPart → List ℕ → ℕ → ℕ → Memory → ℕ → Change
move_to_emac part g at sr m op =
    reading_source g m (plus at 2) op Long λ from v.
    acting sr from.next from.moved (setting part op v)

-- MOV3Q.L #<data>,<ea>x: 1 to 7, or -1 for 0 → destination. N, Z of it; V, C cleared; X not affected
unfoldable pub three_bits : ℕ → ℕ
three_bits op = cond (eqb (upper op) 0) 0xFFFF_FFFF (upper op)

-- 51. To immediates and places relative to the program counter too. The manual: vector 10
unfoldable pub mov3q : List ℕ → ℕ → ℕ → Memory → ℕ → Change
mov3q g at sr m op =
    let v : ℕ = three_bits op in
    put_to g (move_codes Long v sr) (destination g m (plus at 2) op Long) Long v

-- 14. A word of the line with no row of its own reads a long operand first. The manual: vector 10, and no operand
unfoldable pub unassigned : List ℕ → ℕ → ℕ → Memory → ℕ → Change
unassigned g at sr m op =
    reading_source g m (plus at 2) op Long λ from v.
    enter_after from.moved sr 10 at

-- ---- MAC.L Ry,Rx,ACCx: ACCx + Ry * Rx, scaled → ACCx. MSAC.L: ACCx - it. MAC.W, MSAC.W: of a half of Ry and a half of Rx.
-- With a load, <ea>y → Rw at the same time. MACSR's N, Z, V, EV and PAVx; condition codes are not affected

-- an operand of a register's v: of MAC.L all of it, of MAC.W the upper or the lower half
unfoldable pub operand : ℕ → ℕ → Bool → ℕ → ℕ
operand macsr w upper v = cond (word_operands w) (word_operand (mode_of macsr) upper v) v

-- the scale factor, the sign and the halves that the second word says: bit 7 is set for the upper half of Rx, bit 6 for that of Ry
abbrev pub accumulating : ℕ → ℕ → ℕ → ℕ → ℕ → Action
accumulating macsr w i x y = Accumulate i (bits 10 9 w) (bit_of 8 w) (operand macsr w (bit_of 7 w) x) (operand macsr w (bit_of 6 w) y)

-- two registers, w being the second word. The accumulator's low bit is bit 7, and its high bit is bit 4 of w
-- 41. Bits 3 to 0 of w are not looked at. The manual: on an EMAC_B they say a dual accumulation
unfoldable pub mac_registers : List ℕ → ℕ → ℕ → ℕ → ℕ → ℕ → Change
mac_registers g at sr macsr op w =
    acting sr (plus at 4) no_write
    (accumulating macsr w (bits 7 7 op + bits 4 4 w * 2) (general g (mac_register op)) (general g (low_four op)))

-- where (An)+, mode 3, and -(An), mode 4, leave their register, the operand being at a
-- 35. (An)+ goes on from the masked address. The manual: An + 4, which is then masked
unfoldable pub load_moves : ℕ → ℕ → Write
load_moves op a =
    cond (eqb (mode op) 3) (write_address (register op) (plus a 4))
    (cond (eqb (mode op) 4) (write_address (register op) a) no_write)

-- bit 5 of w: the address and MASK
-- 35. Of (An)+ too. The manual: An is read as it is
-- 43. All bits of MASK count. The manual: bits 31 to 16 are ones, and a write keeps them so
unfoldable pub load_address : ℕ → ℕ → ℕ → ℕ
load_address mask w base = cond (bit_of 5 w) (bit_and base mask) base

-- with a load, the low bit of the accumulator's number is inverted
-- 56. The address register is written after the loaded one, which it may be. The manual does not say
unfoldable pub mac_load : List ℕ → ℕ → ℕ → ℕ → ℕ → Memory → ℕ → ℕ → ℕ → Change
mac_load g next sr macsr mask m op w base =
    let a : ℕ = load_address mask w base in
    reading (load m a Long) λ v.
    record {
      pc = next;
      ccr = kept_codes sr;
      first = write_general (mac_register op) v;
      second = load_moves op a;
      action = accumulating macsr w (1 - bits 7 7 op + bits 4 4 w * 2) (general g (high_four w)) (general g (low_four w));
    }

-- modes 2 to 5; modes 6 and 7 are no instruction of the line
unfoldable pub mac_with_load : List ℕ → ℕ → ℕ → ℕ → ℕ → Memory → ℕ → ℕ → Change
mac_with_load g at sr macsr mask m op w =
    let a : ℕ = address_of g (register op) in
    cond (ltb 5 (mode op)) (enter sr 10 at)
    (cond (eqb (mode op) 5)
    (reading (load m (plus at 4) Word) λ d.
    mac_load g (plus at 6) sr macsr mask m op w (plus a (sign_extended Word d)))
    (mac_load g (plus at 4) sr macsr mask m op w (cond (eqb (mode op) 4) (minus a 4) a)))

-- modes 0 and 1 are the form without a load
unfoldable pub mac : List ℕ → ℕ → ℕ → ℕ → ℕ → Memory → ℕ → Change
mac g at sr macsr mask m op =
    reading (load m (plus at 2) Word) λ w.
    cond (eqb (bits 5 4 op) 0) (mac_registers g at sr macsr op w) (mac_with_load g at sr macsr mask m op w)

-- ---- the rows of the line

unfoldable pub line_a : ℕ → List ℕ → ℕ → ℕ → Emac → Memory → ℕ → Change
line_a row g at sr e m op =
    by_row (first_row 0xA) row at sr
    (move_macsr_to_ccr at e.macsr ∷  -- 89 MACSR_CCR A9C0/FFFF
    move_acc_to_acc at sr op ∷  -- 90 COPY_ACC A110/F9FC
    move_to_general at sr op e.macsr ∷  -- 91 READ_MACSR A980/FFF0
    move_to_general at sr op e.mask ∷  -- 92 READ_MASK AD80/FFF0
    move_to_general at sr op (read_ext (fractional e.macsr) e (ext_field op)) ∷  -- 93 READ_ACCEXT AB80/FBF0
    move_to_emac Macsr g at sr m op ∷  -- 94 WRITE_MACSR A900/FFC0
    move_to_emac Mask g at sr m op ∷  -- 95 WRITE_MASK AD00/FFC0
    move_from_acc at sr e op ∷  -- 96 READ_ACC A180/F9B0
    move_to_emac Ext g at sr m op ∷  -- 97 WRITE_ACCEXT AB00/FBC0
    move_to_emac Acc g at sr m op ∷  -- 98 WRITE_ACC A100/F9C0
    mov3q g at sr m op ∷  -- 99 MOV3Q A140/F1C0
    mac g at sr e.macsr e.mask m op ∷  -- 100 MAC A000/F100
    unassigned g at sr m op ∷  -- 101 LINEA A100/F100
    [])
