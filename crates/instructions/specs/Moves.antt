-- Lines 1, 2 and 3: MOVE and MOVEA of a byte, a long and a word.
use Rattle.std.specs.Prelude.{ℕ}
use mathlib.Core.{List.List, List.[], List.◌∷◌}
use Rattle.manual.specs.declared.{Size.Size, Size.TheVariants.Byte, Size.TheVariants.Word, Size.TheVariants.Long, Change.Change, Destination.Destination}
use Rattle.manual.specs.{Word.plus, Word.sign_extended, Registers.write_address, Registers.written, Flags.move_codes, Flags.kept_codes, Address.operand, Address.destination_of, Change.reading_source, Change.done, Change.put}
use Rattle.manual.specs.{Memory.Memory, Fields.upper, Fields.upper_mode}
use Rattle.instructions.specs.{Rows.first_row, Rows.by_row}

-- MOVE <ea>y,<ea>x: source → destination. N, Z of it; V, C cleared; X not affected. Bits 11 to 6 name the destination, whose extension
-- words come after the source's and whose registers are those after the source's move
-- 21. Every source goes with every destination. The manual: at most three words, and a list of pairs
unfoldable pub move : Size → List ℕ → ℕ → ℕ → Memory → ℕ → Change
move z g at sr m op =
    reading_source g m (plus at 2) op z λ from v.
    let h : List ℕ = written from.moved g in
    let to : Destination = destination_of h m from.next (operand (upper_mode op) (upper op)) z in
    put h z v to.place (done to.next (move_codes z v sr) from.moved to.moved)

-- MOVEA <ea>y,Ax: source, sign-extended → Ax. Condition codes are not affected
-- 22. A byte too. The manual: MOVEA.W and MOVEA.L alone
unfoldable pub movea : Size → List ℕ → ℕ → ℕ → Memory → ℕ → Change
movea z g at sr m op =
    reading_source g m (plus at 2) op z λ from v.
    done from.next (kept_codes sr) from.moved (write_address (upper op) (sign_extended z v))

-- ---- the rows of the lines: each has the same two, of its size

unfoldable pub moves : ℕ → Size → ℕ → List ℕ → ℕ → ℕ → Memory → ℕ → Change
moves first z row g at sr m op =
    by_row first row at sr
    (movea z g at sr m op ∷  -- 14 MOVEA_B 1040/F1C0, 16 MOVEA_L 2040/F1C0, 18 MOVEA_W 3040/F1C0
    move z g at sr m op ∷  -- 15 MOVE_B 1000/F000, 17 MOVE_L 2000/F000, 19 MOVE_W 3000/F000
    [])

abbrev pub line1 : ℕ → List ℕ → ℕ → ℕ → Memory → ℕ → Change
line1 = moves (first_row 1) Byte

abbrev pub line2 : ℕ → List ℕ → ℕ → ℕ → Memory → ℕ → Change
line2 = moves (first_row 2) Long

abbrev pub line3 : ℕ → List ℕ → ℕ → ℕ → Memory → ℕ → Change
line3 = moves (first_row 3) Word
