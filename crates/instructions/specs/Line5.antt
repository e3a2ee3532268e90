-- Line 5: ADDQ, SUBQ, Scc and TPF.
use Rattle.std.specs.Prelude.{ℕ, ◌+◌}
use mathlib.Core.{Bool.Bool, Bool.cond, List.List, List.[], List.◌∷◌}
use lib.{Dec.eqb}
use Rattle.manual.specs.declared.{Size.TheVariants.Byte, Change.Change}
use Rattle.manual.specs.{Word.plus, Word.merged, Registers.data_of, Registers.address_of, Registers.no_write, Registers.write_data, Registers.write_address, Flags.kept_codes, Conditions.condition, Change.done, Change.jump, Change.illegal}
use Rattle.manual.specs.{Differences.any_size, Memory.Memory, Fields.bits, Fields.upper, Fields.register, Fields.condition_field}
use Rattle.instructions.specs.{Rows.first_row, Rows.by_row, Line9D.add_to_place, Line9D.more_or_less}

-- the immediate of ADDQ and SUBQ, and how far a shift goes: 1 to 8, 8 for 0
unfoldable pub quick_number : ℕ → ℕ
quick_number op = cond (eqb (upper op) 0) 8 (upper op)

-- ADDQ, or SUBQ where bit 8 is set
abbrev pub quick_adds : ℕ → Bool
quick_adds op = eqb (bits 8 8 op) 0

-- ADDQ.L, SUBQ.L #<data>,Ax: Ax + immediate → Ax, or Ax - immediate. Condition codes are not affected
unfoldable pub addq_address : List ℕ → ℕ → ℕ → ℕ → Change
addq_address g at sr op =
    let v : ℕ = more_or_less (quick_adds op) (address_of g (register op)) (quick_number op) in
    done (plus at 2) (kept_codes sr) no_write (write_address (register op) v)

-- ADDQ, SUBQ #<data>,<ea>x: destination + immediate → destination, or destination - immediate. X, N, Z, V, C as ADD or SUB
unfoldable pub addq : List ℕ → ℕ → Memory → ℕ → Change
addq g at m op = add_to_place (quick_adds op) (any_size op) g at m op (quick_number op)

-- Scc.B Dx: all ones → low byte of Dx if the condition holds, else all zeros. Condition codes are not affected
unfoldable pub scc : List ℕ → ℕ → ℕ → ℕ → Change
scc g at sr op =
    let v : ℕ = cond (condition (condition_field op) sr) 0xFF 0 in
    done (plus at 2) (kept_codes sr) no_write (write_data (register op) (merged Byte (data_of g (register op)) v))

-- TPF, TPF.W, TPF.L: PC + 2 → PC, and past n bytes more, which are not fetched. Condition codes are not affected
-- 30. With every condition. The manual: TPF is 51FA, 51FB and 51FC alone
unfoldable pub tpf : ℕ → ℕ → ℕ → Change
tpf n at sr = jump sr (plus at (2 + n))

-- ---- the rows of the line

unfoldable pub line5 : ℕ → List ℕ → ℕ → ℕ → Memory → ℕ → Change
line5 row g at sr m op =
    by_row (first_row 5) row at sr
    (tpf 2 at sr ∷  -- 60 TPF_W 50FA/F0FF
    tpf 4 at sr ∷  -- 61 TPF_L 50FB/F0FF
    tpf 0 at sr ∷  -- 62 TPF 50FC/F0FF
    addq_address g at sr op ∷  -- 63 ADDQ_AN_B 5008/F0F8
    addq_address g at sr op ∷  -- 64 ADDQ_AN_W 5048/F0F8
    addq_address g at sr op ∷  -- 65 ADDQ_AN_L 5088/F0F8
    scc g at sr op ∷  -- 66 SCC 50C0/F0F8
    illegal at sr ∷  -- 67 ILL_50C0 50C0/F0C0
    addq g at m op ∷  -- 68 ADDQ 5000/F000
    [])
