-- Line 8: OR, DIVU.W and DIVS.W.
use Rattle.std.specs.Prelude.{ℕ, ◌+◌, ◌*◌, ◌%◌, Option}
use mathlib.Core.{Bool.Bool, Bool.true, Bool.false, Bool.cond, List.List, List.[], List.◌∷◌}
use Rattle.manual.specs.declared.{Size.TheVariants.Word, Quotient.Quotient, Change.Change, Logic.TheVariants.Or}
use Rattle.manual.specs.{Word.plus, Divide.word_quotient, Divide.signed_word_quotient, Registers.data_of, Registers.write_data, Change.reading_source, Memory.Memory, Fields.upper}
use Rattle.instructions.specs.{Rows.first_row, Rows.by_row, Line4.dividing, LineB.logic_to_place, LineC.logic_to_data}

-- DIVS.W, DIVU.W <ea>y,Dx: Dx / source → Dx, the remainder in its upper word and the quotient in its lower.
-- N, Z of the quotient; overflow, C and X, and a source of 0, as in DIVS.L (`dividing`)
unfoldable pub word_divided : Bool → ℕ → ℕ → Option Quotient
word_divided signs d v = cond signs (signed_word_quotient d v) (word_quotient d v)

unfoldable pub div_w : Bool → List ℕ → ℕ → ℕ → Memory → ℕ → Change
div_w signs g at sr m op =
    reading_source g m (plus at 2) op Word λ from v.
    dividing Word sr from v (word_divided signs (data_of g (upper op)) v) λ q.
    write_data (upper op) (q.remainder % 0x1_0000 * 0x1_0000 + q.quotient % 0x1_0000)

-- ---- the rows of the line

unfoldable pub line8 : ℕ → List ℕ → ℕ → ℕ → Memory → ℕ → Change
line8 row g at sr m op =
    by_row (first_row 8) row at sr
    (div_w false g at sr m op ∷  -- 75 DIVU_W 80C0/F1C0
    div_w true g at sr m op ∷  -- 76 DIVS_W 81C0/F1C0
    logic_to_data Or g at sr m op ∷  -- 77 OR_DN 8000/F100
    logic_to_place Or g at sr m op ∷  -- 78 OR_MEM 8100/F100
    [])
