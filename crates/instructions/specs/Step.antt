-- A step: replies 1, 2 and 3, then the opcode word is fetched, its row's instruction says what changes, and that is done.
use Rattle.std.specs.Prelude.{ℕ, ◌/◌}
use mathlib.Core.{Bool.cond, List.List, List.[], List.◌∷◌}
use lib.{ListN.get_or}
use Rattle.manual.specs.declared.{Cpu.Cpu, Emac.Emac, Size.TheVariants.Word, Reply.TheVariants.Stopped, Change.Change}
use Rattle.manual.specs.{Memory.Memory, Memory.load, Reply.Outcome, Reply.unchanged, Lent.Lent, Lent.memory_of, Lent.checked, Change.reading, Change.illegal, Fields.line}
use Rattle.instructions.specs.{Rows.value, Rows.row_of, Line0.line0, Moves.line1, Moves.line2, Moves.line3, Line4.line4, Line5.line5, Line6.line6, Line7.line7, Line8.line8, Line9D.line9, Line9D.line_d, LineA.line_a, LineB.line_b, LineC.line_c}
use Rattle.instructions.specs.{LineE.line_e, LineF.line_f, Perform.perform}

-- what the word op at `at` changes, taken for the instruction of a row of a line
abbrev pub in_line : ℕ → ℕ → List ℕ → ℕ → ℕ → ℕ → Emac → Memory → ℕ → Change
in_line n row g at sr other e m op =
    get_or
    (line0 row g at sr m op ∷  -- 0 bit operations, immediates
    line1 row g at sr m op ∷  -- 1 MOVE.B
    line2 row g at sr m op ∷  -- 2 MOVE.L
    line3 row g at sr m op ∷  -- 3 MOVE.W
    line4 row g at sr other m op ∷  -- 4 miscellaneous
    line5 row g at sr m op ∷  -- 5 ADDQ, SUBQ, Scc, TPF
    line6 row g at sr m op ∷  -- 6 Bcc, BSR, BRA
    line7 row g at sr m op ∷  -- 7 MOVEQ, MVS, MVZ
    line8 row g at sr m op ∷  -- 8 OR, DIV.W
    line9 row g at sr m op ∷  -- 9 SUB, SUBX
    line_a row g at sr e m op ∷  -- A the EMAC, MOV3Q
    line_b row g at sr m op ∷  -- B CMP, EOR
    line_c row g at sr m op ∷  -- C AND, MUL.W
    line_d row g at sr m op ∷  -- D ADD, ADDX
    line_e row g at sr op ∷  -- E shifts
    line_f row g at sr m op ∷  -- F cache and debug
    [])
    n (illegal at sr)

-- what it changes: its line is the top four bits, and its row says which instruction of the line it is
unfoldable pub instruction : List ℕ → ℕ → ℕ → ℕ → Emac → Memory → ℕ → Change
instruction g at sr other e m op = in_line (line op) (row_of op) g at sr other e m op

-- the instruction of a row, of the line that the row's value has
unfoldable pub of_row : ℕ → List ℕ → ℕ → ℕ → ℕ → Emac → Memory → ℕ → Change
of_row row g at sr other e m op = in_line (value row / 0x1000) row g at sr other e m op

-- 4. An odd program counter is no error, here or where a branch or a handler leads. The manual: an address error, vector 3
unfoldable pub execute : List ℕ → ℕ → ℕ → ℕ → Emac → Memory → Change
execute g at sr other e m = reading (load m at Word) λ op. instruction g at sr other e m op

-- 5. T of the status register does nothing. The manual: a trace exception, vector 9, after each instruction
unfoldable pub step : Cpu → Lent → Outcome
step s l =
    let m : Memory = memory_of l in
    checked s l
    (cond s.stopped (unchanged s Stopped m)
    (perform s (execute s.r s.pc s.sr s.other s.emac m) m))
