-- Where the original interpreter, and so this core, parts from the manual in what several instructions share. What one instruction does
-- otherwise stands with it, and the EMAC's with the EMAC. docs/DIFFERENCES.md has them all by their numbers, each with a witness.
use Rattle.std.specs.Prelude.{ℕ, ◌+◌, ◌*◌, ◌%◌, ◌^◌}
use mathlib.Core.{Bool.cond}
use lib.{Dec.ltb}
use Rattle.manual.specs.declared.{Size.Size, Size.TheVariants.Byte, Size.TheVariants.Word, Operand.Operand, Operand.TheVariants.Zero, Action.TheVariants.Nothing, Change.Change}
use Rattle.manual.specs.{Word.plus, Word.cut, Word.sign_extended, Fields.bits, Fields.size_field, Registers.write_address}

-- ---- Exceptions

-- 2. An interrupt leaves M, bit 12 of the status register. The manual: it clears it.
abbrev pub kept_m : ℕ → ℕ
kept_m sr = sr

-- 3. RTE takes every frame format: 4 to 7 say by how much A7 was off a multiple of 4, and any other is taken as 4.
-- The manual: any other is a format error, vector 14. This is how far A7 goes up.
abbrev pub frame_bytes : ℕ → ℕ
frame_bytes format = cond (ltb format 4) 8 (cond (ltb format 8) (4 + format) 8)

-- 7. All bits of VBR count, and the vector's place is a sum. The manual: bits 19 to 0 of VBR are 0.
abbrev pub vector_place : ℕ → ℕ → ℕ
vector_place vbr vector = plus vbr (vector * 4)

-- 16. The exception call sets the interrupt mask to any level that it is given. The manual: an interrupt alone sets it.
abbrev pub given_level : ℕ → ℕ
given_level level = level % 8 * 0x100

-- ---- Addressing

-- 17. An index may be a word, sign-extended. The manual: an index is a long, and a word an address error.
abbrev pub word_index : ℕ → ℕ
word_index r = sign_extended Word r

-- 18. A scale of 8 is taken, and bit 8 of the extension word is not looked at. The manual: both are address errors.
abbrev pub index_scale : ℕ → ℕ
index_scale w = 2 ^ bits 10 9 w

-- 19. Registers 5 to 7 of mode 7 are an immediate 0 that takes no extension word. The manual: illegal.
abbrev pub reserved_operand : Operand
reserved_operand = Zero

-- 20. A store to an immediate is dropped, its words having been fetched: c is left. The manual: not alterable, so illegal.
abbrev pub store_to_immediate : Change → Change
store_to_immediate c = c

-- 22. A byte of An is its low byte. The manual: there is no byte access to An.
abbrev pub byte_of_address : ℕ → ℕ
byte_of_address a = cut Byte a

-- 25. A store to An by an instruction that has no such form in the manual (CLR, TAS, a bit operation, ..) replaces all 32 bits.
abbrev pub store_to_address : ℕ → ℕ → Change → Change
store_to_address r v c = record { pc = c.pc; ccr = c.ccr; first = c.first; second = write_address r v; action = Nothing }

-- 23. Bits 7 and 6 name the size of ADD, SUB, AND, OR, EOR, ADDQ, SUBQ, ADDX and SUBX. The manual: long only.
abbrev pub any_size : ℕ → Size
any_size op = size_field op
