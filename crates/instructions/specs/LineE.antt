-- Line E: shifts of a data register.
use Rattle.std.specs.Prelude.{ℕ, ◌%◌}
use mathlib.Core.{Bool.Bool, Bool.true, Bool.false, Bool.cond, List.List, List.[], List.◌∷◌}
use Rattle.manual.specs.declared.{Change.Change, Shifted.Shifted}
use Rattle.manual.specs.{Word.plus, Registers.data_of, Registers.no_write, Registers.write_data, Shift.shifted_left, Shift.shifted_right, Shift.signed_shifted_right, Shift.shift_codes, Change.done, Change.illegal, Bits.bit_of, Fields.upper}
use Rattle.manual.specs.{Fields.register}
use Rattle.instructions.specs.{Rows.first_row, Rows.by_row, Line5.quick_number}

-- how far: Dy modulo 64 where bit 5 is set, or 1 to 8
unfoldable pub shift_count : List ℕ → ℕ → ℕ
shift_count g op = cond (bit_of 5 op) (data_of g (upper op) % 64) (quick_number op)

-- left where bit 8 is set; of the right shifts ASR copies the sign bit, LSR does not
unfoldable pub shifted : Bool → ℕ → ℕ → ℕ → Shifted
shifted signs op v n = cond (bit_of 8 op) (shifted_left v n) (cond signs (signed_shifted_right v n) (shifted_right v n))

-- ASL.L, ASR.L, LSL.L, LSR.L Dy,Dx and #<data>,Dx: Dx shifted → Dx. C is the last bit out and X as C, a shift by none clears C and keeps X;
-- N, Z of the result; V cleared
unfoldable pub shift : Bool → List ℕ → ℕ → ℕ → ℕ → Change
shift signs g at sr op =
    let n : ℕ = shift_count g op in
    let s : Shifted = shifted signs op (data_of g (register op)) n in
    done (plus at 2) (shift_codes sr n s) no_write (write_data (register op) s.value)

-- ---- the rows of the line

unfoldable pub line_e : ℕ → List ℕ → ℕ → ℕ → ℕ → Change
line_e row g at sr op =
    by_row (first_row 0xE) row at sr
    (shift true g at sr op ∷  -- 120 ASX E080/F0D8
    shift false g at sr op ∷  -- 121 LSX E088/F0D8
    illegal at sr ∷  -- 122 ILL_E E000/F000
    [])
