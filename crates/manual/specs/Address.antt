-- Effective addresses. The manual: "Effective Addressing Modes" and "Effective Addressing Mode Summary".
use Rattle.manual.specs.declared.Fault.{Fault}
use Rattle.std.specs.Prelude.{ℕ, ◌*◌, ◌%◌, ◌^◌, Result, Option, Ok, Err, Some, None}
use mathlib.Core.{Bool.cond, List.List, List.[], List.◌∷◌}
use lib.{ListN.get_or}
use Rattle.manual.specs.declared.{Source.Source, Destination.Destination, Size.Size, Size.TheVariants.Byte, Size.TheVariants.Word, Size.TheVariants.Long}
use Rattle.manual.specs.declared.{Operand.Operand, Operand.TheVariants.Data, Operand.TheVariants.Address, Operand.TheVariants.Indirect, Operand.TheVariants.PostIncrement, Operand.TheVariants.PreDecrement}
use Rattle.manual.specs.declared.{Operand.TheVariants.Displaced, Operand.TheVariants.Indexed, Operand.TheVariants.AbsoluteWord, Operand.TheVariants.AbsoluteLong, Operand.TheVariants.PcDisplaced, Operand.TheVariants.PcIndexed}
use Rattle.manual.specs.declared.{Operand.TheVariants.Immediate, Operand.TheVariants.Zero, Place.Place, Write.Write, Place.TheVariants.D, Place.TheVariants.A, Place.TheVariants.M, Place.TheVariants.I}
use Rattle.manual.specs.{Word.plus, Word.minus, Word.sign_extended, Word.bytes, Word.cut, Registers.data_of, Registers.address_of, Registers.general, Registers.no_write, Registers.write_address, Memory.Memory, Memory.load, Bits.bit_of}
use Rattle.manual.specs.{Fields.mode, Fields.register, Fields.high_four, Differences.word_index, Differences.index_scale, Differences.reserved_operand, Differences.byte_of_address}

-- the operands of mode 7, by register
abbrev pub mode_seven : List Operand
mode_seven =
    (AbsoluteWord ∷  -- 0 (xxx).W
    AbsoluteLong ∷  -- 1 (xxx).L
    PcDisplaced ∷  -- 2 (d16,PC)
    PcIndexed ∷  -- 3 (d8,PC,Xi)
    Immediate ∷  -- 4 #<data>
    [])

-- the operand that a mode and a register name
unfoldable pub operand : ℕ → ℕ → Operand
operand mode r =
    get_or
    (Data r ∷  -- 0 Dn
    Address r ∷  -- 1 An
    Indirect r ∷  -- 2 (An)
    PostIncrement r ∷  -- 3 (An)+
    PreDecrement r ∷  -- 4 -(An)
    Displaced r ∷  -- 5 (d16,An)
    Indexed r ∷  -- 6 (d8,An,Xi)
    get_or mode_seven (r % 8) reserved_operand ∷  -- 7
    [])
    (mode % 8) reserved_operand

-- the operand that bits 5 to 0 of a word name
abbrev pub operand_of : ℕ → Operand
operand_of op = operand (mode op) (register op)

-- how many bytes of the instruction an operand takes after the opcode word
unfoldable pub extension : Operand → Size → ℕ
extension (Data r) z = 0
extension (Address r) z = 0
extension (Indirect r) z = 0
extension (PostIncrement r) z = 0
extension (PreDecrement r) z = 0
extension (Displaced r) z = 2
extension (Indexed r) z = 2
extension AbsoluteWord z = 2
extension AbsoluteLong z = 4
extension PcDisplaced z = 2
extension PcIndexed z = 2
extension Immediate Byte = 2
extension Immediate Word = 2
extension Immediate Long = 4
extension Zero z = 0

-- the place made of a number that was read, if it was
infixl 20 ◌then◌
abbrev pub ◌then◌ : Result ℕ Fault → (ℕ → Place) → Result Place Fault
Ok v then f = Ok (f v)
Err x then f = Err x

-- the index register of a brief extension word, scaled
unfoldable pub index : List ℕ → ℕ → ℕ
index g w =
    let r : ℕ = general g (high_four w) in
    let x : ℕ = cond (bit_of 11 w) r (word_index r) in
    x * index_scale w % 2 ^ 32

-- the brief extension word: a base, a byte's displacement and the index
unfoldable pub indexed : List ℕ → ℕ → ℕ → ℕ
indexed g base w = plus (plus base (sign_extended Byte w)) (index g w)

-- a byte's immediate is the low byte of a word
unfoldable pub immediate : Memory → ℕ → Size → Result Place Fault
immediate m pc Byte = load m pc Word then λ w. I (w % 0x100)
immediate m pc Word = load m pc Word then λ w. I w
immediate m pc Long = load m pc Long then λ w. I w

-- the place of an operand of a size, its extension words being at pc
unfoldable pub locate : List ℕ → Memory → ℕ → Operand → Size → Result Place Fault
locate g m pc (Data r) z = Ok (D r)
locate g m pc (Address r) z = Ok (A r)
locate g m pc (Indirect r) z = Ok (M (address_of g r))
locate g m pc (PostIncrement r) z = Ok (M (address_of g r))
locate g m pc (PreDecrement r) z = Ok (M (minus (address_of g r) (bytes z)))
locate g m pc (Displaced r) z = load m pc Word then λ w. M (plus (address_of g r) (sign_extended Word w))
locate g m pc (Indexed r) z = load m pc Word then λ w. M (indexed g (address_of g r) w)
locate g m pc AbsoluteWord z = load m pc Word then λ w. M (sign_extended Word w)
locate g m pc AbsoluteLong z = load m pc Long then λ w. M w
locate g m pc PcDisplaced z = load m pc Word then λ w. M (plus pc (sign_extended Word w))
locate g m pc PcIndexed z = load m pc Word then λ w. M (indexed g pc w)
locate g m pc Immediate z = immediate m pc z
locate g m pc Zero z = Ok (I 0)

-- (An)+ and -(An) move their register
unfoldable pub moved : List ℕ → Operand → Size → Write
moved g (Data r) z = no_write
moved g (Address r) z = no_write
moved g (Indirect r) z = no_write
moved g (PostIncrement r) z = write_address r (plus (address_of g r) (bytes z))
moved g (PreDecrement r) z = write_address r (minus (address_of g r) (bytes z))
moved g (Displaced r) z = no_write
moved g (Indexed r) z = no_write
moved g AbsoluteWord z = no_write
moved g AbsoluteLong z = no_write
moved g PcDisplaced z = no_write
moved g PcIndexed z = no_write
moved g Immediate z = no_write
moved g Zero z = no_write

-- an address register as a long or a word, or what is read of it as a byte
abbrev pub part_of_address : Size → ℕ → ℕ
part_of_address Byte a = byte_of_address a
part_of_address Word a = cut Word a
part_of_address Long a = cut Long a

-- what stands at a place
unfoldable pub fetch : List ℕ → Memory → Result Place Fault → Size → Result ℕ Fault
fetch g m (Ok (D r)) z = Ok (cut z (data_of g r))
fetch g m (Ok (A r)) z = Ok (part_of_address z (address_of g r))
fetch g m (Ok (M a)) z = load m a z
fetch g m (Ok (I v)) z = Ok (cut z v)
fetch g m (Err x) z = Err x

-- the value of an operand
unfoldable pub value : List ℕ → Memory → ℕ → Operand → Size → Result ℕ Fault
value g m pc o z = fetch g m (locate g m pc o z) z

-- the address of a place in memory
abbrev pub reached : Result Place Fault → Option (Result ℕ Fault)
reached (Ok (D r)) = None
reached (Ok (A r)) = None
reached (Ok (M a)) = Some (Ok a)
reached (Ok (I v)) = None
reached (Err x) = Some (Err x)

-- the address of a control mode
unfoldable pub control : List ℕ → Memory → ℕ → Operand → Option (Result ℕ Fault)
control g m pc (Data r) = None
control g m pc (Address r) = None
control g m pc (Indirect r) = reached (locate g m pc (Indirect r) Long)
control g m pc (PostIncrement r) = None
control g m pc (PreDecrement r) = None
control g m pc (Displaced r) = reached (locate g m pc (Displaced r) Long)
control g m pc (Indexed r) = reached (locate g m pc (Indexed r) Long)
control g m pc AbsoluteWord = reached (locate g m pc AbsoluteWord Long)
control g m pc AbsoluteLong = reached (locate g m pc AbsoluteLong Long)
control g m pc PcDisplaced = reached (locate g m pc PcDisplaced Long)
control g m pc PcIndexed = reached (locate g m pc PcIndexed Long)
control g m pc Immediate = None
control g m pc Zero = None

-- all that is read of the operand that bits 5 to 0 of a word name, its extension words being at pc
-- 27. Every instruction takes every mode. The manual: each has a list of its own, shorter for MUL.L, DIV.L and bit operations
unfoldable pub source : List ℕ → Memory → ℕ → ℕ → Size → Source
source g m pc op z =
    let o : Operand = operand_of op in
    record { got = value g m pc o z; next = plus pc (extension o z); moved = moved g o z }

-- where an operand is written
-- 20. Modes relative to the program counter are written too. The manual: they are not alterable, so illegal
unfoldable pub destination_of : List ℕ → Memory → ℕ → Operand → Size → Destination
destination_of g m pc o z = record { place = locate g m pc o z; next = plus pc (extension o z); moved = moved g o z }

-- the operand that bits 5 to 0 of a word name
abbrev pub destination : List ℕ → Memory → ℕ → ℕ → Size → Destination
destination g m pc op z = destination_of g m pc (operand_of op) z
