-- Numbers of 8, 16 and 32 bits, and the whole numbers that they stand for.
-- The manual: "Integer Data Formats" and "Organization of Integer Data Formats in Registers".
use Rattle.std.specs.Prelude.{ℕ, suc, ◌+◌, ◌-◌, ◌*◌, ◌/◌, ◌%◌, ◌^◌}
use mathlib.Core.{Bool.Bool, Bool.true, Bool.false, Bool.cond, List.[], List.◌∷◌}
use lib.{Dec.ltb, ListN.get_or, IntN.ℤ, IntN.pos, IntN.negsuc}
use Rattle.manual.specs.declared.{Size.Size, Size.TheVariants.Byte, Size.TheVariants.Word, Size.TheVariants.Long}

abbrev pub bytes : Size → ℕ
bytes Byte = 1
bytes Word = 2
bytes Long = 4

-- half the numbers of a size: the weight of its sign bit
abbrev pub half : Size → ℕ
half Byte = 0x80
half Word = 0x8000
half Long = 0x8000_0000

-- how many numbers a size has
abbrev pub numbers : Size → ℕ
numbers Byte = 0x100
numbers Word = 0x1_0000
numbers Long = 0x1_0000_0000

-- the size that two bits of an opcode word name. 3 names none: a word with it is of another row
unfoldable pub size_of : ℕ → Size
size_of n =
    get_or
    (Byte ∷  -- 0
    Word ∷  -- 1
    Long ∷  -- 2
    [])
    n Long

-- the low bits of a number
unfoldable pub cut : Size → ℕ → ℕ
cut z v = v % numbers z

-- a number whose low bits are replaced by those of another
unfoldable pub merged : Size → ℕ → ℕ → ℕ
merged z old v = old / numbers z * numbers z + v % numbers z

-- addresses, sums and differences wrap at 2 ^ 32
unfoldable pub plus : ℕ → ℕ → ℕ
plus a b = (a + b) % 2 ^ 32

unfoldable pub minus : ℕ → ℕ → ℕ
minus a b = (a + (2 ^ 32 - b)) % 2 ^ 32

abbrev pub bit : Bool → ℕ
bit true = 1
bit false = 0

-- ---- two's complement

-- the number that a pattern p stands for, half of whose width's numbers is H: itself below H, and p - 2H from there on
unfoldable pub signed_at : ℕ → ℕ → ℤ
signed_at H p = cond (ltb p H) (pos p) (negsuc (H + H - suc p))

-- z modulo m, from 0 to m - 1: where m is a power of two, z's low bits
abbrev pub mod_z : ℤ → ℕ → ℕ
mod_z (pos n) m = n % m
mod_z (negsuc n) m = m - suc (n % m)

-- -H ≤ z < H, -(n + 1) being at least -H where n is below H
abbrev pub in_half : ℕ → ℤ → Bool
in_half H (pos n) = ltb n H
in_half H (negsuc n) = ltb n H

abbrev pub negative : ℤ → Bool
negative (pos n) = false
negative (negsuc n) = true

-- the signed number of a size
abbrev pub signed : Size → ℕ → ℤ
signed z v = signed_at (half z) (cut z v)

-- whether a number is one of the signed numbers of a size
abbrev pub fits : Size → ℤ → Bool
fits z = in_half (half z)

-- the long with the signed value of the number v of a size
unfoldable pub sign_extended : Size → ℕ → ℕ
sign_extended z v = mod_z (signed z v) (2 ^ 32)
