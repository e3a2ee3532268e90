-- The sum that the program prints of its file.
use Rattle.std.specs.Prelude.{ℕ, zero, suc, ◌+◌, ◌*◌, ◌%◌, List, get_or}

-- the sum of the first bytes, each before the next times 257, in 32 bits
unfoldable pub summed : ℕ → List ℕ → ℕ
summed zero file = 0
summed (suc n) file = (summed n file * 257 + get_or file n 0) % 4294967296
