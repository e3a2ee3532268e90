-- What a step does besides its registers, once its reads are made: what it stores, which vector it enters, and what it then reads.
-- Document: "Opcode rows", and reply 0, "done; a step also gives the vector it entered, or 0".
--
-- The effects stand in tables, line by line and row by row in the order of the rows, as the reads do in Accesses. Of an effect it is said
-- which numbers it stores where, in order, and which accesses it makes. Assumes nothing.
use Rattle.std.specs.Prelude.{ℕ, zero, suc, ◌+◌, ◌/◌, ◌%◌, ◌<◌, ◌^◌, Bool, true, false, cond, List, [], ◌∷◌, ◌++◌, eqb, ltb, get_or, Result, Option, Ok, Err, Some, None}
use Rattle.manual.specs.declared.Fault.{Fault}
use Rattle.manual.specs.declared.Cpu.{Cpu}
use Rattle.manual.specs.declared.Size.{Size}
use Rattle.manual.specs.declared.Size.TheVariants.{Byte, Word, Long}
use Rattle.manual.specs.declared.Place.{Place}
use Rattle.manual.specs.declared.Place.TheVariants.{D, A, M, I}
use Rattle.manual.specs.declared.Write.{Write}
use Rattle.manual.specs.declared.Logic.{Logic}
use Rattle.manual.specs.declared.Logic.TheVariants.{And, Or, Eor}
use Rattle.manual.specs.Word.{bytes, plus, minus, sign_extended}
use Rattle.manual.specs.Bits.{logic, with_bit, changed_bit}
use Rattle.manual.specs.Fields.{bits, line, upper, upper_mode, mode, register, size_field, low_byte, low_four, bit_operator, control_field}
use Rattle.manual.specs.Registers.{data_of, address_of, general, no_write, written, with_parts}
use Rattle.manual.specs.Flags.{sum_or_difference}
use Rattle.manual.specs.Memory.{Storage, Memory, number_in, number_at, store_at}
use Rattle.manual.specs.Address.{operand, extension, locate, moved, value, control}
use Rattle.manual.specs.Differences.{any_size, vector_place}
use Rattle.manual.specs.Exceptions.{supervisor, set_sr, handler_sr, frame_long, pc_place, frame_place}
use Rattle.instructions.specs.Rows.{first_row, row_of, place_in}
use Rattle.instructions.specs.Line5.{quick_number, quick_adds}
use Rattle.instructions.specs.Line6.{displacement_bytes}
use Rattle.instructions.specs.LineA.{three_bits}
use Rattle.demands.specs.Accesses.{Wanted, wanted, none, named, many_longs, return_at, reads}

pub data Effect : Type 0 where
  -- nothing is stored, and no vector entered
  nothing : Effect
  -- a number of a size is stored at an address
  stores : ℕ → Size → ℕ → Effect
  -- STRLDSR: the status register is pushed as a long
  pushes_status : Effect
  -- MOVEM: the registers of a mask go to memory, or come from it, from an address on
  stores_many : ℕ → ℕ → Effect
  loads_many : ℕ → ℕ → Effect
  -- an exception: the operand's register has moved, if it moves; the vector; and the program counter in the frame
  enters : Write → ℕ → ℕ → Effect
  -- RTE
  returns : Effect

-- ---- the parts

-- a number of a size goes to a place: it is stored where the place is in memory
abbrev pub to_place : Result Place Fault → Size → ℕ → Effect
to_place (Ok (D r)) z v = nothing
to_place (Ok (A r)) z v = nothing
to_place (Ok (M a)) z v = stores a z v
to_place (Ok (I i)) z v = nothing
to_place (Err x) z v = nothing

-- a word at `at` that is illegal; and one that the supervisor alone may use
abbrev pub illegal_word : ℕ → Effect
illegal_word at = enters no_write 4 at

abbrev pub privileged : ℕ → ℕ → Effect → Effect
privileged at sr e = cond (supervisor sr) e (enters no_write 8 at)

-- what is done with the address of a control mode; a mode that has none is illegal
abbrev pub at_address : ℕ → Option (Result ℕ Fault) → (ℕ → Effect) → Effect
at_address at (Some got) f = f (number_in got)
at_address at None f = illegal_word at

-- ---- the effect of a word op at `at`, by its row

module _ (g : List ℕ) (at sr : ℕ) (m : Memory) (op : ℕ) where
  -- the operand that the word names, its extension words being at pc: its value, and its register's move
  abbrev pub operand_value : ℕ → Size → ℕ
  operand_value pc z = number_in (value g m pc (named op) z)

  abbrev pub operand_move : Size → Write
  operand_move z = moved g (named op) z

  -- a number goes to it; or what f makes of its value
  abbrev pub sets : ℕ → Size → ℕ → Effect
  sets pc z v = to_place (locate g m pc (named op) z) z v

  abbrev pub updates : ℕ → Size → (ℕ → ℕ) → Effect
  updates pc z f = sets pc z (f (operand_value pc z))

  -- a long is pushed: at A7 - 4
  abbrev pub pushes : ℕ → Effect
  pushes v = stores (minus (address_of g 7) 4) Long v

  abbrev pub controlled : (ℕ → Effect) → Effect
  controlled f = at_address at (control g m (plus at 2) (named op)) f

  -- BTST, BCHG, BCLR, BSET of bit n: a byte in memory, but for BTST
  abbrev pub bit_effect : ℕ → ℕ → Effect
  bit_effect pc n =
      cond (eqb (mode op) 0) nothing
      (cond (eqb (bit_operator op) 0) nothing (updates pc Byte λ v. changed_bit (bit_operator op) (n % 8) v))

  unfoldable pub effects0 : ℕ → Effect
  effects0 row =
      get_or
      (nothing ∷  -- BITREV
      nothing ∷  -- BYTEREV
      nothing ∷  -- FF1
      nothing ∷  -- ORI
      nothing ∷  -- ANDI
      nothing ∷  -- SUBI
      nothing ∷  -- ADDI
      nothing ∷  -- EORI
      nothing ∷  -- CMPI_B
      nothing ∷  -- CMPI_W
      nothing ∷  -- CMPI_L
      bit_effect (plus at 4) (number_at m (plus at 2) Word) ∷  -- BITOP_IMM
      bit_effect (plus at 2) (data_of g (upper op)) ∷  -- BITOP_DN
      illegal_word at ∷  -- ILL_0
      [])
      (place_in (first_row 0) row) (illegal_word at)

  -- MOVE: the source's value goes to the destination, whose registers are those after the source's move
  abbrev pub move_effect : Size → Effect
  move_effect z =
      to_place (locate (written (operand_move z) g) m (plus (plus at 2) (extension (named op) z)) (operand (upper_mode op) (upper op)) z) z
      (operand_value (plus at 2) z)

  -- lines 1, 2 and 3, from their first row on
  unfoldable pub effects_moves : ℕ → Size → ℕ → Effect
  effects_moves first z row =
      get_or
      (nothing ∷  -- MOVEA_B, MOVEA_L, MOVEA_W
      move_effect z ∷  -- MOVE_B, MOVE_L, MOVE_W
      [])
      (place_in first row) (illegal_word at)

  -- STRLDSR, where the second word is 0x46FC
  abbrev pub status_effect : Effect
  status_effect = cond (eqb (number_at m (plus at 2) Word) 0x46FC) (privileged at sr pushes_status) (illegal_word at)

  -- MOVEC: bits 11 to 0 of the second word are CACR's number or VBR's; any other is illegal
  abbrev pub control_effect : Effect
  control_effect =
      let rc : ℕ = control_field (number_at m (plus at 2) Word) in
      privileged at sr (cond (eqb rc 0x002) nothing (cond (eqb rc 0x801) nothing (illegal_word at)))

  -- MOVEM in modes 2 and 5; any other is illegal
  abbrev pub many_effect : (ℕ → ℕ → Effect) → Effect
  many_effect many =
      let regs : ℕ = number_at m (plus at 2) Word in
      let a : ℕ = address_of g (register op) in
      cond (eqb (mode op) 2) (many regs a)
      (cond (eqb (mode op) 5) (many regs (plus a (sign_extended Word (number_at m (plus at 4) Word)))) (illegal_word at))

  -- every divide, by the operand whose extension words are at pc: by zero it enters vector 5, with the next instruction's program counter
  abbrev pub divide_effect : ℕ → Size → Effect
  divide_effect pc z = cond (eqb (operand_value pc z) 0) (enters (operand_move z) 5 (plus pc (extension (named op) z))) nothing

  unfoldable pub effects4 : ℕ → Effect
  effects4 row =
      get_or
      (nothing ∷  -- NOP
      privileged at sr nothing ∷  -- STOP
      privileged at sr returns ∷  -- RTE
      nothing ∷  -- RTS
      control_effect ∷  -- MOVEC_READ
      control_effect ∷  -- MOVEC_WRITE
      nothing ∷  -- HALT
      nothing ∷  -- PULSE
      illegal_word at ∷  -- ILLEGAL
      status_effect ∷  -- STLDSR
      nothing ∷  -- EXTB
      pushes (address_of g (register op)) ∷  -- LINK
      nothing ∷  -- UNLK
      privileged at sr nothing ∷  -- TO_USP
      privileged at sr nothing ∷  -- FROM_USP
      nothing ∷  -- FROM_CCR
      nothing ∷  -- SWAP
      nothing ∷  -- EXT_W
      nothing ∷  -- EXT_L
      nothing ∷  -- SATS
      nothing ∷  -- NEGX
      nothing ∷  -- NEG
      nothing ∷  -- NOT
      enters no_write (32 + low_four op) (plus at 2) ∷  -- TRAP
      controlled (λ a. pushes (plus (plus at 2) (extension (named op) Long))) ∷  -- JSR
      controlled (λ a. nothing) ∷  -- JMP
      privileged at sr (cond (eqb (mode op) 0) nothing (illegal_word at)) ∷  -- FROM_SR
      illegal_word at ∷  -- ILL_42C0
      nothing ∷  -- TO_CCR
      cond (supervisor sr) nothing (enters (operand_move Word) 8 at) ∷  -- TO_SR
      controlled (λ a. pushes a) ∷  -- PEA
      many_effect stores_many ∷  -- MOVEM_STORE
      many_effect loads_many ∷  -- MOVEM_LOAD
      nothing ∷  -- MUL_L
      divide_effect (plus at 4) Long ∷  -- DIV_L
      updates (plus at 2) Byte (λ v. with_bit 7 true v) ∷  -- TAS
      sets (plus at 2) (size_field op) 0 ∷  -- CLR
      nothing ∷  -- TST
      controlled (λ a. nothing) ∷  -- LEA
      illegal_word at ∷  -- ILL_4
      [])
      (place_in (first_row 4) row) (illegal_word at)

  -- a number is added to the operand, or taken from it
  abbrev pub sum_effect : Bool → Size → ℕ → Effect
  sum_effect add z n = updates (plus at 2) z λ v. (sum_or_difference add z n v false).value

  unfoldable pub effects5 : ℕ → Effect
  effects5 row =
      get_or
      (nothing ∷  -- TPF_W
      nothing ∷  -- TPF_L
      nothing ∷  -- TPF
      nothing ∷  -- ADDQ_AN_B
      nothing ∷  -- ADDQ_AN_W
      nothing ∷  -- ADDQ_AN_L
      nothing ∷  -- SCC
      illegal_word at ∷  -- ILL_50C0
      sum_effect (quick_adds op) (any_size op) (quick_number op) ∷  -- ADDQ
      [])
      (place_in (first_row 5) row) (illegal_word at)

  unfoldable pub effects6 : ℕ → Effect
  effects6 row =
      get_or
      (nothing ∷  -- BRA
      pushes (plus (plus at 2) (displacement_bytes (low_byte op))) ∷  -- BSR
      nothing ∷  -- BCC
      [])
      (place_in (first_row 6) row) (illegal_word at)

  unfoldable pub effects7 : ℕ → Effect
  effects7 row =
      get_or
      (nothing ∷  -- MVS
      nothing ∷  -- MVZ
      nothing ∷  -- MOVEQ
      [])
      (place_in (first_row 7) row) (illegal_word at)

  -- Dn and the operand are combined
  abbrev pub logic_effect : Logic → Effect
  logic_effect l = updates (plus at 2) (any_size op) λ v. logic l v (data_of g (upper op))

  unfoldable pub effects8 : ℕ → Effect
  effects8 row =
      get_or
      (divide_effect (plus at 2) Word ∷  -- DIVU_W
      divide_effect (plus at 2) Word ∷  -- DIVS_W
      nothing ∷  -- OR_DN
      logic_effect Or ∷  -- OR_MEM
      [])
      (place_in (first_row 8) row) (illegal_word at)

  -- lines 9 and D, from their first row on
  unfoldable pub effects9_d : ℕ → Bool → ℕ → Effect
  effects9_d first add row =
      get_or
      (nothing ∷  -- SUBX_B, ADDX_B
      nothing ∷  -- SUBX_W, ADDX_W
      nothing ∷  -- SUBX_L, ADDX_L
      illegal_word at ∷  -- SUB_ILL_B, ADD_ILL_B
      illegal_word at ∷  -- SUB_ILL_W, ADD_ILL_W
      illegal_word at ∷  -- SUB_ILL_L, ADD_ILL_L
      nothing ∷  -- SUBA_W, ADDA_W
      nothing ∷  -- SUBA_L, ADDA_L
      nothing ∷  -- SUB_DN, ADD_DN
      sum_effect add (any_size op) (data_of g (upper op)) ∷  -- SUB_MEM, ADD_MEM
      [])
      (place_in first row) (illegal_word at)

  -- MAC and MSAC: modes 6 and 7 are no instruction of the line
  abbrev pub mac_effect : Effect
  mac_effect = cond (eqb (bits 5 4 op) 0) nothing (cond (ltb 5 (mode op)) (enters no_write 10 at) nothing)

  unfoldable pub effects_a : ℕ → Effect
  effects_a row =
      get_or
      (nothing ∷  -- MACSR_CCR
      nothing ∷  -- COPY_ACC
      nothing ∷  -- READ_MACSR
      nothing ∷  -- READ_MASK
      nothing ∷  -- READ_ACCEXT
      nothing ∷  -- WRITE_MACSR
      nothing ∷  -- WRITE_MASK
      nothing ∷  -- READ_ACC
      nothing ∷  -- WRITE_ACCEXT
      nothing ∷  -- WRITE_ACC
      sets (plus at 2) Long (three_bits op) ∷  -- MOV3Q
      mac_effect ∷  -- MAC
      enters (operand_move Long) 10 at ∷  -- LINEA
      [])
      (place_in (first_row 0xA) row) (illegal_word at)

  unfoldable pub effects_b : ℕ → Effect
  effects_b row =
      get_or
      (nothing ∷  -- CMPA_W
      nothing ∷  -- CMPA_L
      nothing ∷  -- CMP
      logic_effect Eor ∷  -- EOR
      [])
      (place_in (first_row 0xB) row) (illegal_word at)

  unfoldable pub effects_c : ℕ → Effect
  effects_c row =
      get_or
      (nothing ∷  -- MULU_W
      nothing ∷  -- MULS_W
      nothing ∷  -- AND_DN
      logic_effect And ∷  -- AND_MEM
      [])
      (place_in (first_row 0xC) row) (illegal_word at)

  unfoldable pub effects_e : ℕ → Effect
  effects_e row =
      get_or
      (nothing ∷  -- ASX
      nothing ∷  -- LSX
      illegal_word at ∷  -- ILL_E
      [])
      (place_in (first_row 0xE) row) (illegal_word at)

  unfoldable pub effects_f : ℕ → Effect
  effects_f row =
      get_or
      (nothing ∷  -- WDEBUG
      privileged at sr nothing ∷  -- CACHE
      nothing ∷  -- WDDATA
      enters no_write 11 at ∷  -- LINEF
      [])
      (place_in (first_row 0xF) row) (illegal_word at)

  -- the line is the top four bits
  unfoldable pub effect : Effect
  effect =
      let row : ℕ = row_of op in
      get_or
      (effects0 row ∷
      effects_moves (first_row 1) Byte row ∷
      effects_moves (first_row 2) Long row ∷
      effects_moves (first_row 3) Word row ∷
      effects4 row ∷
      effects5 row ∷
      effects6 row ∷
      effects7 row ∷
      effects8 row ∷
      effects9_d (first_row 9) false row ∷
      effects_a row ∷
      effects_b row ∷
      effects_c row ∷
      effects9_d (first_row 0xD) true row ∷
      effects_e row ∷
      effects_f row ∷
      [])
      (line op) (illegal_word at)

-- ---- the vectors, and the program counters in their frames: of the word at `at`, or of the next instruction. w is the operand's move

pub data Vector (at : ℕ) : Write → ℕ → ℕ → Type 0 where
  illegal-word : Vector at no_write 4 at
  violation : {w : Write} → w.value < 2 ^ 32 → Vector at w 8 at
  zero_divide_lem : {w : Write} {next : ℕ} → w.value < 2 ^ 32 → next < 2 ^ 32 → Vector at w 5 next
  line-a : {w : Write} → w.value < 2 ^ 32 → Vector at w 10 at
  line_f_lem : Vector at no_write 11 at
  trapped : {n : ℕ} → n < 16 → Vector at no_write (32 + n) (plus at 2)

-- an effect enters no other vectors than these
abbrev pub Lawful : ℕ → Effect → Type 0
Lawful at nothing = Unit {0}
Lawful at (stores a z v) = Unit {0}
Lawful at pushes_status = Unit {0}
Lawful at (stores_many regs a) = Unit {0}
Lawful at (loads_many regs a) = Unit {0}
Lawful at (enters w vector pc) = Vector at w vector pc
Lawful at returns = Unit {0}

-- the vector that an effect enters, or 0
abbrev pub vector_of : Effect → ℕ
vector_of nothing = 0
vector_of (stores a z v) = 0
vector_of pushes_status = 0
vector_of (stores_many regs a) = 0
vector_of (loads_many regs a) = 0
vector_of (enters w vector pc) = vector
vector_of returns = 0

-- the registers that an entry is made from: those after the operand's move
abbrev pub handed : Write → ℕ → Cpu → Cpu
handed w pc s = with_parts (written w s.r) pc s.sr s.emac s

-- ---- what an effect stores: the low bytes of a value, `count` of them, at an address

pub record Put : Type 0 where
  pub address : ℕ
  pub count : ℕ
  pub value : ℕ

abbrev pub put : ℕ → ℕ → ℕ → Put
put a n v = record { address = a; count = n; value = v }

-- MOVEM: the registers of a mask from number n on, as longs one after the other; `left` of them are still to come
unfoldable pub many_puts : ℕ → List ℕ → ℕ → ℕ → ℕ → List Put
many_puts zero g n regs a = []
many_puts (suc left) g n regs a =
    cond (eqb (regs % 2) 1)
    (put a 4 (general g n) ∷ many_puts left g (n + 1) (regs / 2) (plus a 4))
    (many_puts left g (n + 1) (regs / 2) a)

-- the frame of an entry from the registers s: the program counter, and below it the format, the vector and the status register. sp is
-- A7 with the handler's status register
abbrev pub frame_puts : Cpu → ℕ → ℕ → List Put
frame_puts s vector pc =
    let sp : ℕ = address_of (set_sr (handler_sr None s.sr) s).r 7 in
    put (pc_place sp) 4 pc ∷ put (frame_place sp) 4 (frame_long sp vector s.sr) ∷ []

-- s is the state before the step
abbrev pub puts_of : Cpu → Effect → List Put
puts_of s nothing = []
puts_of s (stores a z v) = put a (bytes z) v ∷ []
puts_of s pushes_status = put (minus (address_of s.r 7) 4) 4 s.sr ∷ []
puts_of s (stores_many regs a) = many_puts 16 s.r 0 regs a
puts_of s (loads_many regs a) = []
puts_of s (enters w vector pc) = frame_puts (handed w pc s) vector pc
puts_of s returns = []

-- what it reads after that: MOVEM's longs, the vector, the frame
abbrev pub reads_of : Cpu → Effect → List Wanted
reads_of s nothing = none
reads_of s (stores a z v) = none
reads_of s pushes_status = none
reads_of s (stores_many regs a) = none
reads_of s (loads_many regs a) = many_longs 16 regs a
reads_of s (enters w vector pc) = wanted (vector_place s.vbr vector) 4 ∷ []
reads_of s returns = return_at s

-- the accesses of stores
abbrev pub places : List Put → List Wanted
places [] = none
places (p ∷ ps) = wanted p.address p.count ∷ places ps

-- ---- a step

abbrev pub effect_of : Cpu → Memory → Effect
effect_of s m = effect s.r s.pc s.sr m (number_at m s.pc Word)

-- its stores, in order
unfoldable pub writes : Cpu → Memory → List Put
writes s m = puts_of s (effect_of s m)

-- its accesses: the opcode word, the reads of its row, its stores, and what is read after them
unfoldable pub accesses : Cpu → Memory → List Wanted
accesses s m =
    wanted s.pc 2
    ∷ (reads s.r s.pc m (number_at m s.pc Word) s.emac.mask ++ (places (puts_of s (effect_of s m)) ++ reads_of s (effect_of s m)))

-- storage with stores, one after the other
abbrev pub stored_all : Storage → List Put → Storage
stored_all b [] = b
stored_all b (p ∷ ps) = stored_all (store_at b p.address p.count p.value) ps
