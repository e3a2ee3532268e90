-- Line 0: bit operations and immediates.
use Rattle.std.specs.Prelude.{ℕ, ◌%◌}
use mathlib.Core.{Bool.Bool, Bool.true, Bool.false, Bool.cond, Bool.not, List.List, List.[], List.◌∷◌}
use lib.{Dec.eqb, Count.count_leading_zeros}
use Rattle.manual.specs.declared.{Size.Size, Size.TheVariants.Byte, Size.TheVariants.Word, Size.TheVariants.Long, Operand.TheVariants.Immediate, Change.Change, Logic.Logic, Logic.TheVariants.And, Logic.TheVariants.Or}
use Rattle.manual.specs.declared.{Logic.TheVariants.Eor, Sum.Sum}
use Rattle.manual.specs.{Word.plus, Bits.logic, Bits.bit_of, Bits.changed_bit, Bits.reversed_bits, Bits.reversed_bytes, Registers.data_of, Registers.no_write, Registers.write_data, Flags.move_codes, Flags.kept_codes, Flags.sum_codes}
use Rattle.manual.specs.{Flags.compare_codes, Flags.test_codes, Flags.sum_or_difference, Flags.subtracted, Memory.Memory, Memory.load, Address.extension, Address.value, Change.done, Change.reading, Change.illegal, Change.put_to}
use Rattle.manual.specs.{Change.reading_place, Fields.upper, Fields.mode, Fields.register, Fields.bit_operator}
use Rattle.instructions.specs.{Rows.first_row, Rows.by_row}

-- BITREV.L Dx: Dx with its bits in reverse order → Dx. Condition codes are not affected
unfoldable pub bitrev : List ℕ → ℕ → ℕ → ℕ → Change
bitrev g at sr op = done (plus at 2) (kept_codes sr) no_write (write_data (register op) (reversed_bits 32 (data_of g (register op))))

-- BYTEREV.L Dx: Dx with its bytes in reverse order → Dx. Condition codes are not affected
unfoldable pub byterev : List ℕ → ℕ → ℕ → ℕ → Change
byterev g at sr op = done (plus at 2) (kept_codes sr) no_write (write_data (register op) (reversed_bytes (data_of g (register op))))

-- FF1.L Dx: the zeros above the highest one of Dx, 32 if there is none → Dx. N, Z of the old Dx; V, C cleared; X not affected
unfoldable pub ff1 : List ℕ → ℕ → ℕ → ℕ → Change
ff1 g at sr op =
    let v : ℕ = data_of g (register op) in
    done (plus at 2) (move_codes Long v sr) no_write (write_data (register op) (count_leading_zeros 32 v))

-- ORI.L, ANDI.L, EORI.L #<data>,Dx: Dx op immediate → Dx. N, Z of the result; V, C cleared; X not affected
unfoldable pub logic_immediate : Logic → List ℕ → ℕ → ℕ → Memory → ℕ → Change
logic_immediate l g at sr m op =
    let pc : ℕ = plus at 2 in
    reading (load m pc Long) λ v.
    let r : ℕ = logic l (data_of g (register op)) v in
    done (plus pc 4) (move_codes Long r sr) no_write (write_data (register op) r)

-- ADDI.L, SUBI.L #<data>,Dx: Dx + immediate → Dx, or Dx - immediate. X, N, Z, V, C as ADD or SUB
unfoldable pub sum_immediate : Bool → List ℕ → ℕ → Memory → ℕ → Change
sum_immediate add g at m op =
    let pc : ℕ = plus at 2 in
    reading (load m pc Long) λ v.
    let r : Sum = sum_or_difference add Long v (data_of g (register op)) false in
    done (plus pc 4) (sum_codes r) no_write (write_data (register op) r.value)

-- CMPI #<data>,Dx: Dx - immediate. N, Z, V, C of it; X not affected
-- 29. The upper byte of CMPI.B's word is not looked at, nor any other bit that has no name here. The manual: 0, or undefined
unfoldable pub cmpi : Size → List ℕ → ℕ → ℕ → Memory → ℕ → Change
cmpi z g at sr m op =
    let pc : ℕ = plus at 2 in
    reading (value g m pc Immediate z) λ v.
    done (plus pc (extension Immediate z)) (compare_codes sr (subtracted z v (data_of g (register op)) false)) no_write no_write

-- ---- BTST, BCHG, BCLR, BSET: ~(bit n of the operand) → Z; BCHG turns the bit over, BCLR clears and BSET sets it. X, N, V, C not affected

-- a data register: a long, bit n modulo 32
unfoldable pub bit_of_data : List ℕ → ℕ → ℕ → ℕ → ℕ → Change
bit_of_data g pc sr op n =
    let v : ℕ = data_of g (register op) in
    done pc (test_codes sr (not (bit_of (n % 32) v))) no_write (write_data (register op) (changed_bit (bit_operator op) (n % 32) v))

-- anywhere else: a byte, bit n modulo 8. BTST, operation 0, stores nothing
-- 47, 57. BTST takes An, an immediate and places relative to the program counter. The manual: no An; whether the others, is unsure
unfoldable pub bit_of_byte : List ℕ → ℕ → ℕ → Memory → ℕ → ℕ → Change
bit_of_byte g pc sr m op n =
    reading_place g m pc op Byte λ to v.
    let codes : ℕ = test_codes sr (not (bit_of (n % 8) v)) in
    cond (eqb (bit_operator op) 0)
    (done to.next codes to.moved no_write)
    (put_to g codes to Byte (changed_bit (bit_operator op) (n % 8) v))

unfoldable pub bit_operation : List ℕ → ℕ → ℕ → Memory → ℕ → ℕ → Change
bit_operation g pc sr m op n = cond (eqb (mode op) 0) (bit_of_data g pc sr op n) (bit_of_byte g pc sr m op n)

-- the bit's number is in a register, or in the word that follows
unfoldable pub bit_by_register : List ℕ → ℕ → ℕ → Memory → ℕ → Change
bit_by_register g at sr m op = bit_operation g (plus at 2) sr m op (data_of g (upper op))

unfoldable pub bit_by_immediate : List ℕ → ℕ → ℕ → Memory → ℕ → Change
bit_by_immediate g at sr m op =
    reading (load m (plus at 2) Word) λ n.
    bit_operation g (plus at 4) sr m op n

-- ---- the rows of the line

unfoldable pub line0 : ℕ → List ℕ → ℕ → ℕ → Memory → ℕ → Change
line0 row g at sr m op =
    by_row (first_row 0) row at sr
    (bitrev g at sr op ∷  -- 0 BITREV 00C0/FFF8
    byterev g at sr op ∷  -- 1 BYTEREV 02C0/FFF8
    ff1 g at sr op ∷  -- 2 FF1 04C0/FFF8
    logic_immediate Or g at sr m op ∷  -- 3 ORI 0080/FFF8
    logic_immediate And g at sr m op ∷  -- 4 ANDI 0280/FFF8
    sum_immediate false g at m op ∷  -- 5 SUBI 0480/FFF8
    sum_immediate true g at m op ∷  -- 6 ADDI 0680/FFF8
    logic_immediate Eor g at sr m op ∷  -- 7 EORI 0A80/FFF8
    cmpi Byte g at sr m op ∷  -- 8 CMPI_B 0C00/FFF8
    cmpi Word g at sr m op ∷  -- 9 CMPI_W 0C40/FFF8
    cmpi Long g at sr m op ∷  -- 10 CMPI_L 0C80/FFF8
    bit_by_immediate g at sr m op ∷  -- 11 BITOP_IMM 0800/FF00
    bit_by_register g at sr m op ∷  -- 12 BITOP_DN 0100/F100
    illegal at sr ∷  -- 13 ILL_0 0000/F000
    [])
