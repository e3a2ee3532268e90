-- The reads that a step makes: each an address and a number of bytes. Document: "an access of n bytes at a is inside exactly when
-- a + n, as whole numbers, is at most the length", and reply 4, "an access this call makes is not inside".
--
-- A step fetches its opcode word and makes the reads of the word's row; what it does to memory after them is listed in Effects.
-- The reads stand in tables, line by line and row by row in the order of the rows. Where a read's address hangs on a word that was read
-- before it, that word is what a load finds there. Assumes nothing.
use Rattle.std.specs.Prelude.{ℕ, zero, suc, ◌/◌, ◌%◌, ◌≡◌, cond, List, [], ◌∷◌, ◌++◌, eqb, ltb, get_or, Result, Option, Ok, Err, Some, None}
use Rattle.manual.specs.declared.Cpu.{Cpu}
use Rattle.manual.specs.declared.Size.{Size}
use Rattle.manual.specs.declared.Size.TheVariants.{Byte, Word, Long}
use Rattle.manual.specs.declared.Fault.{Fault}
use Rattle.manual.specs.declared.Fault.TheVariants.{Outside as Out}
use Rattle.manual.specs.declared.Operand.{Operand}
use Rattle.manual.specs.declared.Operand.TheVariants.{Immediate}
use Rattle.manual.specs.declared.Place.{Place}
use Rattle.manual.specs.declared.Place.TheVariants.{D, A, M, I}
use Rattle.manual.specs.Word.{bytes, plus, minus, sign_extended}
use Rattle.manual.specs.Fields.{bits, line, upper, upper_mode, mode, register, size_field, byte_or_word, low_byte}
use Rattle.manual.specs.Registers.{address_of}
use Rattle.manual.specs.Memory.{Memory, access, taken, number_at}
use Rattle.manual.specs.Address.{operand, operand_of, extension, locate, control}
use Rattle.manual.specs.Differences.{any_size, vector_place}
use Rattle.manual.specs.Exceptions.{set_sr, handler_sr, pc_place, frame_place}
use Rattle.instructions.specs.Rows.{first_row, row_of, place_in}
use Rattle.instructions.specs.Line6.{displacement_bytes}
use Rattle.instructions.specs.LineA.{load_address}

pub record Wanted : Type 0 where
  pub address : ℕ
  pub count : ℕ

abbrev pub wanted : ℕ → ℕ → Wanted
wanted a n = record { address = a; count = n }

-- an access of n bytes at a is inside, or it is not (Exact says by the length when)
abbrev pub Inside : Memory → ℕ → ℕ → Type 0
Inside m a n = taken (access m a n) ≡ Ok tt

abbrev pub Outside : Memory → ℕ → ℕ → Type 0
Outside m a n = access m a n ≡ Err Out

-- some access of a list is not inside
pub data SomeOutside (m : Memory) : List Wanted → Type 0 where
  this : {x : Wanted} {l : List Wanted} → Outside m x.address x.count → SomeOutside m (x ∷ l)
  another : {x : Wanted} {l : List Wanted} → SomeOutside m l → SomeOutside m (x ∷ l)

-- ---- the parts

abbrev pub none : List Wanted
none = []

abbrev pub word_at : ℕ → List Wanted
word_at a = wanted a 2 ∷ []

abbrev pub long_at : ℕ → List Wanted
long_at a = wanted a 4 ∷ []

-- n bytes of the instruction after its opcode word, at pc: one access, and none where n is 0
abbrev pub words : ℕ → ℕ → List Wanted
words pc n = cond (eqb n 0) none (wanted pc n ∷ [])

-- the operand that bits 5 to 0 of a word name
abbrev pub named : ℕ → Operand
named op = operand_of op

-- the bytes of a place: those at its address, where it is in memory
abbrev pub own : Result Place Fault → Size → List Wanted
own (Ok (D r)) z = none
own (Ok (A r)) z = none
own (Ok (M a)) z = wanted a (bytes z) ∷ []
own (Ok (I v)) z = none
own (Err x) z = none

-- the extension words of the operand that a word names, which lie at pc, and no more
abbrev pub extension_of : ℕ → ℕ → Size → List Wanted
extension_of pc op z = words pc (extension (named op) z)

-- and then the operand itself
abbrev pub operand_at : List ℕ → Memory → ℕ → ℕ → Size → List Wanted
operand_at g m pc op z = extension_of pc op z ++ own (locate g m pc (named op) z) z

-- the extension words of a control mode; a mode that has no address has none
abbrev pub reached_by : Option (Result ℕ Fault) → List Wanted → List Wanted
reached_by (Some got) l = l
reached_by None l = none

abbrev pub control_at : List ℕ → Memory → ℕ → ℕ → List Wanted
control_at g m pc op = reached_by (control g m pc (named op)) (extension_of pc op Long)

-- MOVEM: a long for each register of the mask, one after the other from a on; `left` of them are still to come
unfoldable pub many_longs : ℕ → ℕ → ℕ → List Wanted
many_longs zero regs a = none
many_longs (suc left) regs a =
    cond (eqb (regs % 2) 1) (wanted a 4 ∷ many_longs left (regs / 2) (plus a 4)) (many_longs left (regs / 2) a)

-- an entry from the registers s: two longs are stored, sp being A7 with the handler's status register, and the vector is read
abbrev pub entry_at : Cpu → Option ℕ → ℕ → List Wanted
entry_at s level vector =
    let sp : ℕ = address_of (set_sr (handler_sr level s.sr) s).r 7 in
    wanted (pc_place sp) 4 ∷ wanted (frame_place sp) 4 ∷ wanted (vector_place s.vbr vector) 4 ∷ []

-- a return reads two longs
abbrev pub return_at : Cpu → List Wanted
return_at s = wanted (address_of s.r 7) 4 ∷ wanted (plus (address_of s.r 7) 4) 4 ∷ []

-- ---- the reads of a word op at `at`, by its row

module _ (g : List ℕ) (at : ℕ) (m : Memory) (op : ℕ) where
  -- the operand that the word names, with its extension words right after the word
  abbrev pub source : Size → List Wanted
  source z = operand_at g m (plus at 2) op z

  unfoldable pub reads0 : ℕ → List Wanted
  reads0 row =
      get_or
      (none ∷  -- BITREV
      none ∷  -- BYTEREV
      none ∷  -- FF1
      long_at (plus at 2) ∷  -- ORI
      long_at (plus at 2) ∷  -- ANDI
      long_at (plus at 2) ∷  -- SUBI
      long_at (plus at 2) ∷  -- ADDI
      long_at (plus at 2) ∷  -- EORI
      words (plus at 2) (extension Immediate Byte) ∷  -- CMPI_B
      words (plus at 2) (extension Immediate Word) ∷  -- CMPI_W
      words (plus at 2) (extension Immediate Long) ∷  -- CMPI_L
      (word_at (plus at 2) ++ operand_at g m (plus at 4) op Byte) ∷  -- BITOP_IMM
      source Byte ∷  -- BITOP_DN
      none ∷  -- ILL_0
      [])
      (place_in (first_row 0) row) none

  -- MOVE: the source, and the extension words of the destination, which lie after the source's
  abbrev pub move_reads : Size → List Wanted
  move_reads z =
      source z ++ words (plus (plus at 2) (extension (named op) z)) (extension (operand (upper_mode op) (upper op)) z)

  -- lines 1, 2 and 3, from their first row on
  unfoldable pub reads_moves : ℕ → Size → ℕ → List Wanted
  reads_moves first z row =
      get_or
      (source z ∷  -- MOVEA_B, MOVEA_L, MOVEA_W
      move_reads z ∷  -- MOVE_B, MOVE_L, MOVE_W
      [])
      (place_in first row) none

  -- STLDSR: the new status register, where the second word is 0x46FC
  abbrev pub status_reads : List Wanted
  status_reads = word_at (plus at 2) ++ cond (eqb (number_at m (plus at 2) Word) 0x46FC) (word_at (plus at 4)) none

  -- MOVEM: the registers' word, and the displacement in mode 5
  abbrev pub many_reads : List Wanted
  many_reads = word_at (plus at 2) ++ cond (eqb (mode op) 5) (word_at (plus at 4)) none

  unfoldable pub reads4 : ℕ → List Wanted
  reads4 row =
      get_or
      (none ∷  -- NOP
      word_at (plus at 2) ∷  -- STOP
      none ∷  -- RTE
      long_at (address_of g 7) ∷  -- RTS
      word_at (plus at 2) ∷  -- MOVEC_READ
      word_at (plus at 2) ∷  -- MOVEC_WRITE
      none ∷  -- HALT
      none ∷  -- PULSE
      none ∷  -- ILLEGAL
      status_reads ∷  -- STLDSR
      none ∷  -- EXTB
      word_at (plus at 2) ∷  -- LINK
      long_at (address_of g (register op)) ∷  -- UNLK
      none ∷  -- TO_USP
      none ∷  -- FROM_USP
      none ∷  -- FROM_CCR
      none ∷  -- SWAP
      none ∷  -- EXT_W
      none ∷  -- EXT_L
      none ∷  -- SATS
      none ∷  -- NEGX
      none ∷  -- NEG
      none ∷  -- NOT
      none ∷  -- TRAP
      control_at g m (plus at 2) op ∷  -- JSR
      control_at g m (plus at 2) op ∷  -- JMP
      none ∷  -- FROM_SR
      none ∷  -- ILL_42C0
      source Word ∷  -- TO_CCR
      source Word ∷  -- TO_SR
      control_at g m (plus at 2) op ∷  -- PEA
      many_reads ∷  -- MOVEM_STORE
      many_reads ∷  -- MOVEM_LOAD
      (word_at (plus at 2) ++ operand_at g m (plus at 4) op Long) ∷  -- MUL_L
      (word_at (plus at 2) ++ operand_at g m (plus at 4) op Long) ∷  -- DIV_L
      source Byte ∷  -- TAS
      extension_of (plus at 2) op (size_field op) ∷  -- CLR
      source (size_field op) ∷  -- TST
      control_at g m (plus at 2) op ∷  -- LEA
      none ∷  -- ILL_4
      [])
      (place_in (first_row 4) row) none

  unfoldable pub reads5 : ℕ → List Wanted
  reads5 row =
      get_or
      (none ∷  -- TPF_W
      none ∷  -- TPF_L
      none ∷  -- TPF
      none ∷  -- ADDQ_AN_B
      none ∷  -- ADDQ_AN_W
      none ∷  -- ADDQ_AN_L
      none ∷  -- SCC
      none ∷  -- ILL_50C0
      source (any_size op) ∷  -- ADDQ
      [])
      (place_in (first_row 5) row) none

  -- a branch: the displacement, where it is not in the word
  unfoldable pub reads6 : ℕ → List Wanted
  reads6 row =
      get_or
      (words (plus at 2) (displacement_bytes (low_byte op)) ∷  -- BRA
      words (plus at 2) (displacement_bytes (low_byte op)) ∷  -- BSR
      words (plus at 2) (displacement_bytes (low_byte op)) ∷  -- BCC
      [])
      (place_in (first_row 6) row) none

  unfoldable pub reads7 : ℕ → List Wanted
  reads7 row =
      get_or
      (source (byte_or_word op) ∷  -- MVS
      source (byte_or_word op) ∷  -- MVZ
      none ∷  -- MOVEQ
      [])
      (place_in (first_row 7) row) none

  unfoldable pub reads8 : ℕ → List Wanted
  reads8 row =
      get_or
      (source Word ∷  -- DIVU_W
      source Word ∷  -- DIVS_W
      source (any_size op) ∷  -- OR_DN
      source (any_size op) ∷  -- OR_MEM
      [])
      (place_in (first_row 8) row) none

  -- lines 9 and D, from their first row on
  unfoldable pub reads9_d : ℕ → ℕ → List Wanted
  reads9_d first row =
      get_or
      (none ∷  -- SUBX_B, ADDX_B
      none ∷  -- SUBX_W, ADDX_W
      none ∷  -- SUBX_L, ADDX_L
      none ∷  -- SUB_ILL_B, ADD_ILL_B
      none ∷  -- SUB_ILL_W, ADD_ILL_W
      none ∷  -- SUB_ILL_L, ADD_ILL_L
      source Word ∷  -- SUBA_W, ADDA_W
      source Long ∷  -- SUBA_L, ADDA_L
      source (any_size op) ∷  -- SUB_DN, ADD_DN
      source (any_size op) ∷  -- SUB_MEM, ADD_MEM
      [])
      (place_in first row) none

  -- MAC and MSAC: the second word w; and the long of the parallel load, in modes 2 to 5. Mode 5 has its displacement before it
  abbrev pub load_reads : ℕ → ℕ → List Wanted
  load_reads mask w =
      cond (eqb (mode op) 5)
      (word_at (plus at 4) ++ long_at (load_address mask w (plus (address_of g (register op)) (sign_extended Word (number_at m (plus at 4) Word)))))
      (long_at (load_address mask w (cond (eqb (mode op) 4) (minus (address_of g (register op)) 4) (address_of g (register op)))))

  abbrev pub mac_reads : ℕ → List Wanted
  mac_reads mask =
      let w : ℕ = number_at m (plus at 2) Word in
      word_at (plus at 2)
      ++ cond (eqb (bits 5 4 op) 0) none (cond (ltb 5 (mode op)) none (load_reads mask w))

  unfoldable pub reads_a : ℕ → ℕ → List Wanted
  reads_a mask row =
      get_or
      (none ∷  -- MACSR_CCR
      none ∷  -- COPY_ACC
      none ∷  -- READ_MACSR
      none ∷  -- READ_MASK
      none ∷  -- READ_ACCEXT
      source Long ∷  -- WRITE_MACSR
      source Long ∷  -- WRITE_MASK
      none ∷  -- READ_ACC
      source Long ∷  -- WRITE_ACCEXT
      source Long ∷  -- WRITE_ACC
      extension_of (plus at 2) op Long ∷  -- MOV3Q
      mac_reads mask ∷  -- MAC
      source Long ∷  -- LINEA
      [])
      (place_in (first_row 0xA) row) none

  unfoldable pub reads_b : ℕ → List Wanted
  reads_b row =
      get_or
      (source Word ∷  -- CMPA_W
      source Long ∷  -- CMPA_L
      source (size_field op) ∷  -- CMP
      source (any_size op) ∷  -- EOR
      [])
      (place_in (first_row 0xB) row) none

  unfoldable pub reads_c : ℕ → List Wanted
  reads_c row =
      get_or
      (source Word ∷  -- MULU_W
      source Word ∷  -- MULS_W
      source (any_size op) ∷  -- AND_DN
      source (any_size op) ∷  -- AND_MEM
      [])
      (place_in (first_row 0xC) row) none

  unfoldable pub reads_f : ℕ → List Wanted
  reads_f row =
      get_or
      (control_at g m (plus at 2) op ∷  -- WDEBUG
      none ∷  -- CACHE
      extension_of (plus at 2) op (size_field op) ∷  -- WDDATA
      none ∷  -- LINEF
      [])
      (place_in (first_row 0xF) row) none

  -- the line is the top four bits; a shift reads nothing. mask is the EMAC's
  unfoldable pub reads : ℕ → List Wanted
  reads mask =
      let row : ℕ = row_of op in
      get_or
      (reads0 row ∷
      reads_moves (first_row 1) Byte row ∷
      reads_moves (first_row 2) Long row ∷
      reads_moves (first_row 3) Word row ∷
      reads4 row ∷
      reads5 row ∷
      reads6 row ∷
      reads7 row ∷
      reads8 row ∷
      reads9_d (first_row 9) row ∷
      reads_a mask row ∷
      reads_b row ∷
      reads_c row ∷
      reads9_d (first_row 0xD) row ∷
      none ∷
      reads_f row ∷
      [])
      (line op) none
