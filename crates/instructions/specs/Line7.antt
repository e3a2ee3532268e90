-- Line 7: MOVEQ, MVS and MVZ.
use Rattle.std.specs.Prelude.{ℕ}
use mathlib.Core.{List.List, List.[], List.◌∷◌}
use Rattle.manual.specs.declared.{Size.Size, Size.TheVariants.Byte, Size.TheVariants.Long, Change.Change}
use Rattle.manual.specs.{Word.plus, Word.sign_extended, Registers.no_write, Registers.write_data, Flags.move_codes, Change.reading_source, Change.done, Memory.Memory, Fields.upper, Fields.byte_or_word}
use Rattle.instructions.specs.{Rows.first_row, Rows.by_row}

-- MOVEQ.L #<data>,Dx: the low byte, sign-extended → Dx. N, Z of it; V, C cleared; X not affected
unfoldable pub moveq : ℕ → ℕ → ℕ → Change
moveq at sr op =
    let v : ℕ = sign_extended Byte op in
    done (plus at 2) (move_codes Long v sr) no_write (write_data (upper op) v)

-- MVS <ea>y,Dx: source, sign-extended → Dx. N, Z of the result; V, C cleared; X not affected
-- 48. MVS.B and MVZ.B take An. The manual: no byte access to An
unfoldable pub mvs : List ℕ → ℕ → ℕ → Memory → ℕ → Change
mvs g at sr m op =
    let z : Size = byte_or_word op in
    reading_source g m (plus at 2) op z λ from v.
    done from.next (move_codes Long (sign_extended z v) sr) from.moved (write_data (upper op) (sign_extended z v))

-- MVZ <ea>y,Dx: source, zero-extended → Dx. Z of the result; N, V, C cleared; X not affected
unfoldable pub mvz : List ℕ → ℕ → ℕ → Memory → ℕ → Change
mvz g at sr m op =
    reading_source g m (plus at 2) op (byte_or_word op) λ from v.
    done from.next (move_codes Long v sr) from.moved (write_data (upper op) v)

-- ---- the rows of the line

unfoldable pub line7 : ℕ → List ℕ → ℕ → ℕ → Memory → ℕ → Change
line7 row g at sr m op =
    by_row (first_row 7) row at sr
    (mvs g at sr m op ∷  -- 72 MVS 7100/F180
    mvz g at sr m op ∷  -- 73 MVZ 7180/F180
    moveq at sr op ∷  -- 74 MOVEQ 7000/F100
    [])
