-- The opcode rows: a value and its fixed bits each, and the row that a word takes. A row fits a word that has the row's value
-- at the row's fixed bits; a word takes the row that fits it with the most fixed bits. The manual: "Instruction Set Summary" and "Opcode Map".
use Rattle.std.specs.Prelude.{ℕ, zero, suc, ◌+◌, ◌-◌, ◌/◌, ◌%◌, ◌≤◌, ◌<◌}
use mathlib.Core.{Path.◌≡◌, Bool.true, Bool.false, Bool.cond, List.List, List.[], List.◌∷◌, List.◌++◌, List.map}
use lib.{Bits.bit_and, Dec.eqb, Dec.ltb, ListN.length, ListN.get_or, ListN.take}
use Rattle.manual.specs.{declared.Change.Change, Change.illegal}

pub record Row : Type 0 where
  pub value : ℕ
  pub mask : ℕ

abbrev row : ℕ → ℕ → Row
row v m = record { value = v; mask = m }

-- the rows line by line, those of a line with more fixed bits first
abbrev line0_rows : List Row
line0_rows =
    (row 0x00C0 0xFFF8 ∷  -- BITREV
    row 0x02C0 0xFFF8 ∷  -- BYTEREV
    row 0x04C0 0xFFF8 ∷  -- FF1
    row 0x0080 0xFFF8 ∷  -- ORI
    row 0x0280 0xFFF8 ∷  -- ANDI
    row 0x0480 0xFFF8 ∷  -- SUBI
    row 0x0680 0xFFF8 ∷  -- ADDI
    row 0x0A80 0xFFF8 ∷  -- EORI
    row 0x0C00 0xFFF8 ∷  -- CMPI_B
    row 0x0C40 0xFFF8 ∷  -- CMPI_W
    row 0x0C80 0xFFF8 ∷  -- CMPI_L
    row 0x0800 0xFF00 ∷  -- BITOP_IMM
    row 0x0100 0xF100 ∷  -- BITOP_DN
    row 0x0000 0xF000 ∷  -- ILL_0
    [])

abbrev line1_rows : List Row
line1_rows =
    (row 0x1040 0xF1C0 ∷  -- MOVEA_B
    row 0x1000 0xF000 ∷  -- MOVE_B
    [])

abbrev line2_rows : List Row
line2_rows =
    (row 0x2040 0xF1C0 ∷  -- MOVEA_L
    row 0x2000 0xF000 ∷  -- MOVE_L
    [])

abbrev line3_rows : List Row
line3_rows =
    (row 0x3040 0xF1C0 ∷  -- MOVEA_W
    row 0x3000 0xF000 ∷  -- MOVE_W
    [])

abbrev line4_rows : List Row
line4_rows =
    (row 0x4E71 0xFFFF ∷  -- NOP
    row 0x4E72 0xFFFF ∷  -- STOP
    row 0x4E73 0xFFFF ∷  -- RTE
    row 0x4E75 0xFFFF ∷  -- RTS
    row 0x4E7A 0xFFFF ∷  -- MOVEC_READ
    row 0x4E7B 0xFFFF ∷  -- MOVEC_WRITE
    row 0x4AC8 0xFFFF ∷  -- HALT
    row 0x4ACC 0xFFFF ∷  -- PULSE
    row 0x4AFC 0xFFFF ∷  -- ILLEGAL
    row 0x40E7 0xFFFF ∷  -- STLDSR
    row 0x49C0 0xFFF8 ∷  -- EXTB
    row 0x4E50 0xFFF8 ∷  -- LINK
    row 0x4E58 0xFFF8 ∷  -- UNLK
    row 0x4E60 0xFFF8 ∷  -- TO_USP
    row 0x4E68 0xFFF8 ∷  -- FROM_USP
    row 0x42C0 0xFFF8 ∷  -- FROM_CCR
    row 0x4840 0xFFF8 ∷  -- SWAP
    row 0x4880 0xFFF8 ∷  -- EXT_W
    row 0x48C0 0xFFF8 ∷  -- EXT_L
    row 0x4C80 0xFFF8 ∷  -- SATS
    row 0x4080 0xFFF8 ∷  -- NEGX
    row 0x4480 0xFFF8 ∷  -- NEG
    row 0x4680 0xFFF8 ∷  -- NOT
    row 0x4E40 0xFFF0 ∷  -- TRAP
    row 0x4E80 0xFFC0 ∷  -- JSR
    row 0x4EC0 0xFFC0 ∷  -- JMP
    row 0x40C0 0xFFC0 ∷  -- FROM_SR
    row 0x42C0 0xFFC0 ∷  -- ILL_42C0
    row 0x44C0 0xFFC0 ∷  -- TO_CCR
    row 0x46C0 0xFFC0 ∷  -- TO_SR
    row 0x4840 0xFFC0 ∷  -- PEA
    row 0x48C0 0xFFC0 ∷  -- MOVEM_STORE
    row 0x4CC0 0xFFC0 ∷  -- MOVEM_LOAD
    row 0x4C00 0xFFC0 ∷  -- MUL_L
    row 0x4C40 0xFFC0 ∷  -- DIV_L
    row 0x4AC0 0xFFC0 ∷  -- TAS
    row 0x4200 0xFF00 ∷  -- CLR
    row 0x4A00 0xFF00 ∷  -- TST
    row 0x41C0 0xF1C0 ∷  -- LEA
    row 0x4000 0xF000 ∷  -- ILL_4
    [])

abbrev line5_rows : List Row
line5_rows =
    (row 0x50FA 0xF0FF ∷  -- TPF_W
    row 0x50FB 0xF0FF ∷  -- TPF_L
    row 0x50FC 0xF0FF ∷  -- TPF
    row 0x5008 0xF0F8 ∷  -- ADDQ_AN_B
    row 0x5048 0xF0F8 ∷  -- ADDQ_AN_W
    row 0x5088 0xF0F8 ∷  -- ADDQ_AN_L
    row 0x50C0 0xF0F8 ∷  -- SCC
    row 0x50C0 0xF0C0 ∷  -- ILL_50C0
    row 0x5000 0xF000 ∷  -- ADDQ
    [])

abbrev line6_rows : List Row
line6_rows =
    (row 0x6000 0xFF00 ∷  -- BRA
    row 0x6100 0xFF00 ∷  -- BSR
    row 0x6000 0xF000 ∷  -- BCC
    [])

abbrev line7_rows : List Row
line7_rows =
    (row 0x7100 0xF180 ∷  -- MVS
    row 0x7180 0xF180 ∷  -- MVZ
    row 0x7000 0xF100 ∷  -- MOVEQ
    [])

abbrev line8_rows : List Row
line8_rows =
    (row 0x80C0 0xF1C0 ∷  -- DIVU_W
    row 0x81C0 0xF1C0 ∷  -- DIVS_W
    row 0x8000 0xF100 ∷  -- OR_DN
    row 0x8100 0xF100 ∷  -- OR_MEM
    [])

abbrev line9_rows : List Row
line9_rows =
    (row 0x9100 0xF1F8 ∷  -- SUBX_B
    row 0x9140 0xF1F8 ∷  -- SUBX_W
    row 0x9180 0xF1F8 ∷  -- SUBX_L
    row 0x9108 0xF1F8 ∷  -- SUB_ILL_B
    row 0x9148 0xF1F8 ∷  -- SUB_ILL_W
    row 0x9188 0xF1F8 ∷  -- SUB_ILL_L
    row 0x90C0 0xF1C0 ∷  -- SUBA_W
    row 0x91C0 0xF1C0 ∷  -- SUBA_L
    row 0x9000 0xF100 ∷  -- SUB_DN
    row 0x9100 0xF100 ∷  -- SUB_MEM
    [])

abbrev line_a_rows : List Row
line_a_rows =
    (row 0xA9C0 0xFFFF ∷  -- MACSR_CCR
    row 0xA110 0xF9FC ∷  -- COPY_ACC
    row 0xA980 0xFFF0 ∷  -- READ_MACSR
    row 0xAD80 0xFFF0 ∷  -- READ_MASK
    row 0xAB80 0xFBF0 ∷  -- READ_ACCEXT
    row 0xA900 0xFFC0 ∷  -- WRITE_MACSR
    row 0xAD00 0xFFC0 ∷  -- WRITE_MASK
    row 0xA180 0xF9B0 ∷  -- READ_ACC
    row 0xAB00 0xFBC0 ∷  -- WRITE_ACCEXT
    row 0xA100 0xF9C0 ∷  -- WRITE_ACC
    row 0xA140 0xF1C0 ∷  -- MOV3Q
    row 0xA000 0xF100 ∷  -- MAC
    row 0xA100 0xF100 ∷  -- LINEA
    [])

abbrev line_b_rows : List Row
line_b_rows =
    (row 0xB0C0 0xF1C0 ∷  -- CMPA_W
    row 0xB1C0 0xF1C0 ∷  -- CMPA_L
    row 0xB000 0xF100 ∷  -- CMP
    row 0xB100 0xF100 ∷  -- EOR
    [])

abbrev line_c_rows : List Row
line_c_rows =
    (row 0xC0C0 0xF1C0 ∷  -- MULU_W
    row 0xC1C0 0xF1C0 ∷  -- MULS_W
    row 0xC000 0xF100 ∷  -- AND_DN
    row 0xC100 0xF100 ∷  -- AND_MEM
    [])

abbrev line_d_rows : List Row
line_d_rows =
    (row 0xD100 0xF1F8 ∷  -- ADDX_B
    row 0xD140 0xF1F8 ∷  -- ADDX_W
    row 0xD180 0xF1F8 ∷  -- ADDX_L
    row 0xD108 0xF1F8 ∷  -- ADD_ILL_B
    row 0xD148 0xF1F8 ∷  -- ADD_ILL_W
    row 0xD188 0xF1F8 ∷  -- ADD_ILL_L
    row 0xD0C0 0xF1C0 ∷  -- ADDA_W
    row 0xD1C0 0xF1C0 ∷  -- ADDA_L
    row 0xD000 0xF100 ∷  -- ADD_DN
    row 0xD100 0xF100 ∷  -- ADD_MEM
    [])

abbrev line_e_rows : List Row
line_e_rows =
    (row 0xE080 0xF0D8 ∷  -- ASX
    row 0xE088 0xF0D8 ∷  -- LSX
    row 0xE000 0xF000 ∷  -- ILL_E
    [])

abbrev line_f_rows : List Row
line_f_rows =
    (row 0xFBC0 0xFFC0 ∷  -- WDEBUG
    row 0xF400 0xFF00 ∷  -- CACHE
    row 0xFB00 0xFF00 ∷  -- WDDATA
    row 0xF000 0xF000 ∷  -- LINEF
    [])

-- a line is the four top bits of a word
abbrev pub lines : List (List Row)
lines =
    (line0_rows ∷ line1_rows ∷ line2_rows ∷ line3_rows ∷
    line4_rows ∷ line5_rows ∷ line6_rows ∷ line7_rows ∷
    line8_rows ∷ line9_rows ∷ line_a_rows ∷ line_b_rows ∷
    line_c_rows ∷ line_d_rows ∷ line_e_rows ∷ line_f_rows ∷
    [])

-- one line after the other
abbrev pub joined : List (List Row) → List Row
joined [] = []
joined (l ∷ ls) = l ++ joined ls

-- a row's number is its place here
abbrev pub table : List Row
table = joined lines

abbrev pub row_count : ℕ
row_count = length table

-- the number of a line's first row: so many rows have the lines before it
abbrev pub first_row : ℕ → ℕ
first_row line = length (joined (take line lines))

abbrev pub values : List ℕ
values = map (λ r. r.value) table

abbrev pub masks : List ℕ
masks = map (λ r. r.mask) table

abbrev pub value : ℕ → ℕ
value r = get_or values r 0

abbrev pub mask : ℕ → ℕ
mask r = get_or masks r 0

-- how many of the n low bits of a number are set
abbrev pub ones_in : ℕ → ℕ → ℕ
ones_in zero m = 0
ones_in (suc n) m = m % 2 + ones_in n (m / 2)

abbrev pub fixed_bits : ℕ → ℕ
fixed_bits r = ones_in 16 (mask r)

-- row r fits the word w
abbrev pub Fits : ℕ → ℕ → Type 0
Fits w r = bit_and w (mask r) ≡ value r

-- r is the row that the word w takes. This knows no order of the rows
pub record IsRow (w r : ℕ) : Type 0 where
  pub is_row : r < row_count
  pub fitting : Fits w r
  pub most : (q : ℕ) → q < row_count → Fits w q → fixed_bits q ≤ fixed_bits r

-- the first row that fits; past the end where none does
abbrev pub first_fit : ℕ → List ℕ → List ℕ → ℕ
first_fit w [] ms = 0
first_fit w (v ∷ vs) [] = 0
first_fit w (v ∷ vs) (m ∷ ms) = elim (eqb (bit_and w m) v) [ true ↦ 0 | false ↦ suc (first_fit w vs ms) ]

-- the row of a word of 16 bits: the crate `rows` proves that it is the one that `IsRow` says, and that there is one only
unfoldable pub row_of : ℕ → ℕ
row_of w = first_fit (w % 0x1_0000) values masks

-- the place of a row in a line whose first row is given; past every line's end where it is not of the line
unfoldable pub place_in : ℕ → ℕ → ℕ
place_in first r = cond (ltb r first) row_count (r - first)

-- a line's instruction by its row, the line's first row being given; a row of another line is illegal
abbrev pub by_row : ℕ → ℕ → ℕ → ℕ → List Change → Change
by_row first row at sr changes = get_or changes (place_in first row) (illegal at sr)
