-- The fields of an opcode word and of the words after it, as the manual's instruction formats draw them.
use Rattle.std.specs.Prelude.{ℕ, suc, ◌+◌, ◌-◌, ◌*◌, ◌/◌, ◌%◌, ◌^◌}
use mathlib.Core.{Bool.Bool, Bool.cond}
use lib.{Dec.eqb}
use Rattle.manual.specs.declared.{Size.Size, Size.TheVariants.Byte, Size.TheVariants.Word}
use Rattle.manual.specs.{Word.size_of, Bits.bit_of}

-- bits `high` to `low` of a word, as a number
abbrev pub bits : ℕ → ℕ → ℕ → ℕ
bits high low w = w / 2 ^ low % 2 ^ (suc high - low)

-- ---- the opcode word

abbrev pub line : ℕ → ℕ
line op = bits 15 12 op

-- the upper register, or a number from 0 to 7
abbrev pub upper : ℕ → ℕ
upper op = bits 11 9 op

-- the operand's mode and register; and the mode of MOVE's destination, whose register is the upper one
abbrev pub mode : ℕ → ℕ
mode op = bits 5 3 op

abbrev pub register : ℕ → ℕ
register op = op % 8

abbrev pub upper_mode : ℕ → ℕ
upper_mode op = bits 8 6 op

abbrev pub size_field : ℕ → Size
size_field op = size_of (bits 7 6 op)

-- the size of MVS and MVZ, a byte or a word
abbrev pub byte_or_word : ℕ → Size
byte_or_word op = cond (bit_of 6 op) Word Byte

-- which of BTST, BCHG, BCLR and BSET
abbrev pub bit_operator : ℕ → ℕ
bit_operator op = bits 7 6 op

-- the condition of Bcc and Scc
abbrev pub condition_field : ℕ → ℕ
condition_field op = bits 11 8 op

-- a branch's displacement
abbrev pub low_byte : ℕ → ℕ
low_byte op = op % 0x100

-- ---- Rn, by four bits: the lowest, or of an extension word the highest

abbrev pub low_four : ℕ → ℕ
low_four w = w % 16

abbrev pub high_four : ℕ → ℕ
high_four w = bits 15 12 w

-- ---- the number of a control register in MOVEC's second word

abbrev pub control_field : ℕ → ℕ
control_field w = w % 0x1000

-- ---- the EMAC's words

-- ACCx, and ACCy where there is a second; the even accumulator of ACCext01 or ACCext23; and the register Rx of MAC
abbrev pub acc_field : ℕ → ℕ
acc_field op = bits 10 9 op

abbrev pub source_acc : ℕ → ℕ
source_acc op = op % 4

abbrev pub ext_field : ℕ → ℕ
ext_field op = bits 10 10 op * 2

abbrev pub mac_register : ℕ → ℕ
mac_register op = bits 6 6 op * 8 + upper op

-- of MAC's second word: bit 11 is clear
abbrev pub word_operands : ℕ → Bool
word_operands w = eqb (bits 11 11 w) 0
