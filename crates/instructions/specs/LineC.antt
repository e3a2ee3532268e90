-- Line C: AND, MULU.W and MULS.W, and what OR shares with AND.
use Rattle.std.specs.Prelude.{ℕ}
use mathlib.Core.{Bool.Bool, Bool.true, Bool.false, Bool.cond, List.List, List.[], List.◌∷◌}
use Rattle.manual.specs.declared.{Size.Size, Size.TheVariants.Word, Size.TheVariants.Long, Change.Change, Logic.Logic, Logic.TheVariants.And}
use Rattle.manual.specs.{Word.plus, Word.merged, Bits.logic, Multiply.word_product, Multiply.signed_word_product, Registers.data_of, Registers.write_data, Flags.move_codes, Change.reading_source, Change.done, Differences.any_size}
use Rattle.manual.specs.{Memory.Memory, Fields.upper}
use Rattle.instructions.specs.{Rows.first_row, Rows.by_row, LineB.logic_to_place}

-- AND, OR <ea>y,Dx: source op Dx → Dx. N, Z of the result; V, C cleared; X not affected
-- 45. From An too. The manual: no An
unfoldable pub logic_to_data : Logic → List ℕ → ℕ → ℕ → Memory → ℕ → Change
logic_to_data l g at sr m op =
    let z : Size = any_size op in
    let old : ℕ = data_of g (upper op) in
    reading_source g m (plus at 2) op z λ from v.
    let r : ℕ = logic l v old in
    done from.next (move_codes z r sr) from.moved (write_data (upper op) (merged z old r))

-- MULS.W, MULU.W <ea>y,Dx: source * low word of Dx → Dx. N, Z of the result; V, C cleared; X not affected
unfoldable pub product : Bool → ℕ → ℕ → ℕ
product signs x y = cond signs (signed_word_product x y) (word_product x y)

unfoldable pub mul_w : Bool → List ℕ → ℕ → ℕ → Memory → ℕ → Change
mul_w signs g at sr m op =
    reading_source g m (plus at 2) op Word λ from v.
    let r : ℕ = product signs (data_of g (upper op)) v in
    done from.next (move_codes Long r sr) from.moved (write_data (upper op) r)

-- ---- the rows of the line

unfoldable pub line_c : ℕ → List ℕ → ℕ → ℕ → Memory → ℕ → Change
line_c row g at sr m op =
    by_row (first_row 0xC) row at sr
    (mul_w false g at sr m op ∷  -- 106 MULU_W C0C0/F1C0
    mul_w true g at sr m op ∷  -- 107 MULS_W C1C0/F1C0
    logic_to_data And g at sr m op ∷  -- 108 AND_DN C000/F100
    logic_to_place And g at sr m op ∷  -- 109 AND_MEM C100/F100
    [])
