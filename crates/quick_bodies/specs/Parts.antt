-- The size of a source by the row: a byte or a word, or what the word's bits say.
use Rattle.std.specs.Prelude.{ℕ, cond, eqb}
use Rattle.manual.specs.declared.Size.{Size}
use Rattle.manual.specs.declared.Size.TheVariants.{Byte, Word}
use Rattle.manual.specs.Fields.{size_field, byte_or_word}
use Rattle.instructions.specs.Rows.{row_of}

unfoldable pub part_of : ℕ → ℕ → Size
part_of row op =
    cond (eqb row (row_of 0x1000)) Byte  -- MOVE_B
    (cond (eqb row (row_of 0x4A00)) (size_field op)  -- TST
    (cond (eqb row (row_of 0x7100)) (byte_or_word op)  -- MVS
    (cond (eqb row (row_of 0x7180)) (byte_or_word op)  -- MVZ
    Word)))
