-- A record is S, a digit, and bytes of two hex digits each: a count of the bytes that follow it, an address of two, three or four
-- bytes by the digit, data, and a checksum, the ones' complement of the low byte of the sum of all bytes before it.
use Rattle.std.specs.Prelude.{ℕ, ◌+◌, ◌-◌, ◌*◌, Option, Some, None}
use mathlib.Core.{Bool.Bool, Bool.true, Bool.false, Bool.cond, Bool.◌&&◌, List.List, List.[], List.◌∷◌}
use lib.{Dec.eqb, Dec.ltb, Dec.leb}
use Rattle.srecord.specs.declared.{Kind.Kind, Kind.TheVariants.Data, Kind.TheVariants.End, Kind.TheVariants.Skipped}
use Rattle.srecord.specs.declared.{Width.Width, Width.TheVariants.Two, Width.TheVariants.Three, Width.TheVariants.Four}

abbrev pub letter_s : ℕ
letter_s = 83

abbrev pub lf : ℕ
lf = 10

abbrev pub cr : ℕ
cr = 13

-- S1, S2 and S3 are data, S7, S8 and S9 the end. S0, a header, and S5, a count of records, are skipped. S4 and S6 are no records.
unfoldable pub kind_of : ℕ → Option Kind
kind_of d =
    cond (eqb d 48) (Some (Skipped Two))
    (cond (eqb d 49) (Some (Data Two))
    (cond (eqb d 50) (Some (Data Three))
    (cond (eqb d 51) (Some (Data Four))
    (cond (eqb d 53) (Some (Skipped Two))
    (cond (eqb d 55) (Some (End Four))
    (cond (eqb d 56) (Some (End Three))
    (cond (eqb d 57) (Some (End Two))
    None)))))))

-- the bytes of an address
abbrev pub bytes_of : Width → ℕ
bytes_of Two = 2
bytes_of Three = 3
bytes_of Four = 4

-- what a character is worth as a hex digit, in either case; 16 for any other
unfoldable pub worth : ℕ → ℕ
worth c =
    cond (leb 48 c && leb c 57) (c - 48)
    (cond (leb 65 c && leb c 70) (c - 55)
    (cond (leb 97 c && leb c 102) (c - 87)
    16))

-- whether a text is pairs of hex digits, and the bytes that they are
unfoldable pub is_hex : List ℕ → Bool
is_hex [] = true
is_hex (a ∷ []) = false
is_hex (a ∷ b ∷ t) = (ltb (worth a) 16 && ltb (worth b) 16) && is_hex t

unfoldable pub unhexed : List ℕ → List ℕ
unhexed [] = []
unhexed (a ∷ []) = []
unhexed (a ∷ b ∷ t) = (worth a * 16 + worth b) ∷ unhexed t

unfoldable pub total : List ℕ → ℕ
total [] = 0
total (b ∷ bs) = b + total bs
