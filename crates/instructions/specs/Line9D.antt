-- Lines 9 and D: SUB, SUBA, SUBX, ADD, ADDA, ADDX; and what line 5's ADDQ and SUBQ share with them.
use Rattle.std.specs.Prelude.{ℕ}
use mathlib.Core.{Bool.Bool, Bool.true, Bool.false, Bool.cond, List.List, List.[], List.◌∷◌}
use Rattle.manual.specs.declared.{Size.Size, Size.TheVariants.Word, Size.TheVariants.Long, Sum.Sum, Change.Change}
use Rattle.manual.specs.{Word.plus, Word.minus, Word.merged, Word.sign_extended, Registers.data_of, Registers.address_of, Registers.no_write, Registers.write_data, Registers.write_address, Registers.written, Flags.flag_x, Flags.kept_codes}
use Rattle.manual.specs.{Flags.sum_codes, Flags.extended_codes, Flags.sum_or_difference, Change.reading_source, Change.done, Change.illegal, Change.updating, Change.updated, Differences.any_size, Memory.Memory, Fields.upper, Fields.register}
use Rattle.instructions.specs.{Rows.first_row, Rows.by_row}

-- ADD <ea>y,Dx: source + Dx → Dx. SUB <ea>y,Dx: Dx - source → Dx. X and C carry or borrow; N, Z of the result; V overflow
unfoldable pub add_to_data : Bool → List ℕ → ℕ → Memory → ℕ → Change
add_to_data add g at m op =
    let z : Size = any_size op in
    let old : ℕ = data_of g (upper op) in
    reading_source g m (plus at 2) op z λ from v.
    let r : Sum = sum_or_difference add z v old false in
    done from.next (sum_codes r) from.moved (write_data (upper op) (merged z old r.value))

-- a number is added to a place or taken from it. X, N, Z, V, C as before
unfoldable pub add_to_place : Bool → Size → List ℕ → ℕ → Memory → ℕ → ℕ → Change
add_to_place add z g at m op n =
    updating g m (plus at 2) op z λ v.
    let r : Sum = sum_or_difference add z n v false in
    updated (sum_codes r) r.value

-- ADD Dy,<ea>x: Dy + destination → destination. SUB Dy,<ea>x: destination - Dy → destination
unfoldable pub add_to_memory : Bool → List ℕ → ℕ → Memory → ℕ → Change
add_to_memory add g at m op = add_to_place add (any_size op) g at m op (data_of g (upper op))

-- a long is added to another or taken from it
unfoldable pub more_or_less : Bool → ℕ → ℕ → ℕ
more_or_less add old v = cond add (plus old v) (minus old v)

-- ADDA <ea>y,Ax: source, sign-extended, + Ax → Ax, Ax as the source's move left it. SUBA: Ax - source. Condition codes are not affected
-- 23. ADDA.W and SUBA.W too. The manual: long only
unfoldable pub adda : Bool → Size → List ℕ → ℕ → ℕ → Memory → ℕ → Change
adda add z g at sr m op =
    reading_source g m (plus at 2) op z λ from v.
    let old : ℕ = address_of (written from.moved g) (upper op) in
    done from.next (kept_codes sr) from.moved (write_address (upper op) (more_or_less add old (sign_extended z v)))

-- ADDX Dy,Dx: Dy + Dx + X → Dx. SUBX Dy,Dx: Dx - Dy - X → Dx. X, N, V, C as ADD or SUB; Z cleared if nonzero, else kept
unfoldable pub addx : Bool → List ℕ → ℕ → ℕ → ℕ → Change
addx add g at sr op =
    let z : Size = any_size op in
    let old : ℕ = data_of g (upper op) in
    let r : Sum = sum_or_difference add z (data_of g (register op)) old (flag_x sr) in
    done (plus at 2) (extended_codes sr r) no_write (write_data (upper op) (merged z old r.value))

-- ---- the rows of the lines

-- line 9 and line D have the same rows, SUB's and ADD's
unfoldable pub sums : ℕ → Bool → ℕ → List ℕ → ℕ → ℕ → Memory → ℕ → Change
sums first add row g at sr m op =
    by_row first row at sr
    (addx add g at sr op ∷  -- 79 SUBX_B 9100/F1F8, 110 ADDX_B D100/F1F8
    addx add g at sr op ∷  -- 80 SUBX_W 9140/F1F8, 111 ADDX_W D140/F1F8
    addx add g at sr op ∷  -- 81 SUBX_L 9180/F1F8, 112 ADDX_L D180/F1F8
    illegal at sr ∷  -- 82 SUB_ILL_B 9108/F1F8, 113 ADD_ILL_B D108/F1F8
    illegal at sr ∷  -- 83 SUB_ILL_W 9148/F1F8, 114 ADD_ILL_W D148/F1F8
    illegal at sr ∷  -- 84 SUB_ILL_L 9188/F1F8, 115 ADD_ILL_L D188/F1F8
    adda add Word g at sr m op ∷  -- 85 SUBA_W 90C0/F1C0, 116 ADDA_W D0C0/F1C0
    adda add Long g at sr m op ∷  -- 86 SUBA_L 91C0/F1C0, 117 ADDA_L D1C0/F1C0
    add_to_data add g at m op ∷  -- 87 SUB_DN 9000/F100, 118 ADD_DN D000/F100
    add_to_memory add g at m op ∷  -- 88 SUB_MEM 9100/F100, 119 ADD_MEM D100/F100
    [])

abbrev pub line9 : ℕ → List ℕ → ℕ → ℕ → List ℕ → ℕ → Change
line9 = sums (first_row 9) false

abbrev pub line_d : ℕ → List ℕ → ℕ → ℕ → List ℕ → ℕ → Change
line_d = sums (first_row 0xD) true
