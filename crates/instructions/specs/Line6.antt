-- Line 6: BRA, BSR and Bcc.
use Rattle.manual.specs.declared.Fault.{Fault}
use Rattle.std.specs.Prelude.{ℕ, Result, Ok, Err}
use mathlib.Core.{Bool.cond, List.List, List.[], List.◌∷◌}
use lib.{Dec.eqb}
use Rattle.manual.specs.declared.{Size.TheVariants.Byte, Size.TheVariants.Word, Size.TheVariants.Long, Change.Change}
use Rattle.manual.specs.{Word.plus, Word.sign_extended, Conditions.condition, Memory.Memory, Memory.load, Change.jump, Change.push, Change.reading, Fields.condition_field, Fields.low_byte}
use Rattle.instructions.specs.{Rows.first_row, Rows.by_row}

-- the displacement is the word's low byte; 0 says that a word follows, and 255 that a long does
abbrev pub extended : Result ℕ Fault → Result ℕ Fault
extended (Ok v) = Ok (sign_extended Word v)
extended (Err x) = Err x

unfoldable pub displacement : Memory → ℕ → ℕ → Result ℕ Fault
displacement m pc low =
    cond (eqb low 0)
    (extended (load m pc Word))
    (cond (eqb low 255) (load m pc Long) (Ok (sign_extended Byte low)))

unfoldable pub displacement_bytes : ℕ → ℕ
displacement_bytes low = cond (eqb low 0) 2 (cond (eqb low 255) 4 0)

-- BRA <label>: PC + 2 + displacement → PC. Condition codes are not affected
unfoldable pub bra : ℕ → ℕ → Memory → ℕ → Change
bra at sr m op =
    let pc : ℕ = plus at 2 in
    reading (displacement m pc (low_byte op)) λ d.
    jump sr (plus pc d)

-- BSR <label>: SP - 4 → SP; next PC → (SP); PC + 2 + displacement → PC. Condition codes are not affected
unfoldable pub bsr : List ℕ → ℕ → ℕ → Memory → ℕ → Change
bsr g at sr m op =
    let pc : ℕ = plus at 2 in
    reading (displacement m pc (low_byte op)) λ d.
    push g sr (plus pc d) (plus pc (displacement_bytes (low_byte op)))

-- Bcc <label>: if the condition holds, PC + 2 + displacement → PC. Condition codes are not affected
unfoldable pub bcc : ℕ → ℕ → Memory → ℕ → Change
bcc at sr m op =
    let pc : ℕ = plus at 2 in
    reading (displacement m pc (low_byte op)) λ d.
    jump sr (cond (condition (condition_field op) sr) (plus pc d) (plus pc (displacement_bytes (low_byte op))))

-- ---- the rows of the line

unfoldable pub line6 : ℕ → List ℕ → ℕ → ℕ → Memory → ℕ → Change
line6 row g at sr m op =
    by_row (first_row 6) row at sr
    (bra at sr m op ∷  -- 69 BRA 6000/FF00
    bsr g at sr m op ∷  -- 70 BSR 6100/FF00
    bcc at sr m op ∷  -- 71 BCC 6000/F000
    [])
