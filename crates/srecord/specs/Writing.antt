-- Writing S-records: from storage, a range of it and a start address to a text.
use Rattle.std.specs.Prelude.{ℕ, zero, suc, ◌+◌, ◌-◌, ◌/◌, ◌%◌, ◌^◌}
use mathlib.Core.{Bool.cond, List.List, List.[], List.◌∷◌, List.◌++◌}
use lib.{Dec.ltb, Dec.leb, ListN.length, ListN.take, ListN.drop}
use Rattle.manual.specs.{Memory.Storage, Lent.longest}
use Rattle.srecord.specs.declared.{TextReply.TextReply, WriteAnswer.WriteAnswer}
use Rattle.srecord.specs.declared.TextReply.TheVariants as replies
use Rattle.srecord.specs.Records.{letter_s, lf, total}

-- ---- a line

-- a digit's character, 0 to 9 and A to F, and the two of each byte
unfoldable pub digit : ℕ → ℕ
digit d = cond (ltb d 10) (48 + d) (55 + d)

unfoldable pub hexed : List ℕ → List ℕ
hexed [] = []
hexed (b ∷ bs) = digit (b / 16) ∷ digit (b % 16) ∷ hexed bs

abbrev pub four : ℕ → List ℕ
four a = a / 2 ^ 24 % 256 ∷ a / 2 ^ 16 % 256 ∷ a / 2 ^ 8 % 256 ∷ a % 256 ∷ []

-- bytes with their checksum
unfoldable pub sealed : List ℕ → List ℕ
sealed bs = bs ++ ((255 - total bs % 256) ∷ [])

-- the record of a digit with an address of four bytes, as a line
unfoldable pub line_of : ℕ → ℕ → List ℕ → List ℕ
line_of d a bs = letter_s ∷ d ∷ (hexed (sealed ((length bs + 5) ∷ (four a ++ bs))) ++ (lf ∷ []))

-- ---- a text

-- n S3 lines of 16 bytes each, the last of what is left
unfoldable pub data_lines : ℕ → ℕ → List ℕ → List ℕ
data_lines zero a bs = []
data_lines (suc n) a bs = line_of 51 a (take 16 bs) ++ data_lines n (a + 16) (drop 16 bs)

abbrev pub range : Storage → ℕ → ℕ → List ℕ
range m from count = take count (drop from m)

-- the lines of a range, and the S7 line with the start address
unfoldable pub text_of : Storage → ℕ → ℕ → ℕ → List ℕ
text_of m from count start = data_lines ((count + 15) / 16) from (range m from count) ++ line_of 55 start []

-- the answer, and the lent text after it
pub record Written : Type 0 where
  pub answer : WriteAnswer
  pub text : List ℕ

abbrev pub writing : WriteAnswer → List ℕ → Written
writing r t = record { answer = r; text = t }

abbrev pub write_refused : TextReply → WriteAnswer
write_refused n = record { reply = n; count = 0 }

abbrev pub write_done : ℕ → WriteAnswer
write_done n = record { reply = replies.Done; count = n }

-- the lent text begins with the lines, and behind them it is as it was
unfoldable pub write_text : Storage → ℕ → ℕ → ℕ → List ℕ → Written
write_text m from count start given =
    let t : List ℕ = text_of m from count start in
    cond (leb (length m) longest)
    (cond (leb (from + count) (length m))
    (cond (leb (length t) (length given))
    (writing (write_done (length t)) (t ++ drop (length t) given))
    (writing (write_refused replies.NoRoom) given))
    (writing (write_refused replies.NotInside) given))
    (writing (write_refused replies.TooLong) given)
