-- Products. The manual: MULS and MULU. A product of longs keeps its 32 low bits; V and C are cleared.
use Rattle.std.specs.Prelude.{ℕ, ◌*◌, ◌%◌, ◌^◌}
use lib.{IntN.◌*ℤ◌}
use Rattle.manual.specs.declared.{Size.TheVariants.Word, Size.TheVariants.Long}
use Rattle.manual.specs.{Word.cut, Word.signed, Word.mod_z}

-- MULU.L, MULS.L
unfoldable pub long_product : ℕ → ℕ → ℕ
long_product x y = x * y % 2 ^ 32

unfoldable pub signed_long_product : ℕ → ℕ → ℕ
signed_long_product x y = mod_z (signed Long x *ℤ signed Long y) (2 ^ 32)

-- MULU.W, MULS.W: the low words, and a long
unfoldable pub word_product : ℕ → ℕ → ℕ
word_product x y = cut Word x * cut Word y

unfoldable pub signed_word_product : ℕ → ℕ → ℕ
signed_word_product x y = mod_z (signed Word x *ℤ signed Word y) (2 ^ 32)
