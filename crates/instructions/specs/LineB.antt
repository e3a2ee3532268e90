-- Line B: CMP, CMPA and EOR, and what the logic instructions of other lines share with EOR.
use Rattle.std.specs.Prelude.{ℕ}
use mathlib.Core.{Bool.false, List.List, List.[], List.◌∷◌}
use Rattle.manual.specs.declared.{Size.Size, Size.TheVariants.Word, Size.TheVariants.Long, Sum.Sum, Change.Change, Logic.Logic, Logic.TheVariants.Eor}
use Rattle.manual.specs.{Word.plus, Word.sign_extended, Bits.logic, Registers.data_of, Registers.address_of, Registers.no_write, Registers.written, Flags.move_codes, Flags.compare_codes, Flags.subtracted, Change.reading_source, Change.done}
use Rattle.manual.specs.{Change.updating, Change.updated, Differences.any_size, Memory.Memory, Fields.upper, Fields.size_field}
use Rattle.instructions.specs.{Rows.first_row, Rows.by_row}

-- CMP <ea>y,Dx: Dx - source. N, Z, V, C of it; X not affected
unfoldable pub cmp : List ℕ → ℕ → ℕ → Memory → ℕ → Change
cmp g at sr m op =
    let z : Size = size_field op in
    reading_source g m (plus at 2) op z λ from v.
    done from.next (compare_codes sr (subtracted z v (data_of g (upper op)) false)) from.moved no_write

-- CMPA <ea>y,Ax: Ax - source, sign-extended, Ax as the source's move left it. N, Z, V, C of it; X not affected
unfoldable pub cmpa : Size → List ℕ → ℕ → ℕ → Memory → ℕ → Change
cmpa z g at sr m op =
    reading_source g m (plus at 2) op z λ from v.
    let r : Sum = subtracted Long (sign_extended z v) (address_of (written from.moved g) (upper op)) false in
    done from.next (compare_codes sr r) from.moved no_write

-- AND, OR, EOR Dy,<ea>x: Dy op destination → destination. N, Z of the result; V, C cleared; X not affected
-- 24. To An: its low part is combined with all of Dy, and all 32 bits are stored. The manual: no such form
-- 25. AND and OR to Dx take this form too. The manual: no such form
unfoldable pub logic_to_place : Logic → List ℕ → ℕ → ℕ → Memory → ℕ → Change
logic_to_place l g at sr m op =
    let z : Size = any_size op in
    updating g m (plus at 2) op z λ v.
    let r : ℕ = logic l v (data_of g (upper op)) in
    updated (move_codes z r sr) r

-- ---- the rows of the line

unfoldable pub line_b : ℕ → List ℕ → ℕ → ℕ → Memory → ℕ → Change
line_b row g at sr m op =
    by_row (first_row 0xB) row at sr
    (cmpa Word g at sr m op ∷  -- 102 CMPA_W B0C0/F1C0
    cmpa Long g at sr m op ∷  -- 103 CMPA_L B1C0/F1C0
    cmp g at sr m op ∷  -- 104 CMP B000/F100
    logic_to_place Eor g at sr m op ∷  -- 105 EOR B100/F100
    [])
