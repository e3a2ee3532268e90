-- Reading S-records: from a text and storage to a reply, a start address, and storage after it.
use Rattle.std.specs.Prelude.{ℕ, ◌+◌, ◌-◌, ◌%◌, Option, Some, None}
use mathlib.Core.{Bool.Bool, Bool.true, Bool.false, Bool.cond, Bool.◌&&◌, List.List, List.[], List.◌∷◌}
use lib.{Dec.eqb, Dec.leb, ListN.length, ListN.get_or, ListN.take, ListN.drop, Seq.sets}
use Rattle.manual.specs.{Memory.Storage, Memory.value_at, Lent.longest}
use Rattle.srecord.specs.declared.{Kind.Kind, TextReply.TextReply, ReadAnswer.ReadAnswer}
use Rattle.srecord.specs.declared.Kind.TheVariants as kinds
use Rattle.srecord.specs.declared.TextReply.TheVariants as replies
use Rattle.srecord.specs.Records.{letter_s, lf, cr, kind_of, bytes_of, is_hex, unhexed, total}

-- ---- a line

-- what a line says: bytes for an address, the end with the start address, nothing that counts, or what is wrong with it
pub data Said : Type 0 where
  Data : ℕ → List ℕ → Said
  End : ℕ → Said
  Skipped : Said
  Malformed : Said
  WrongSum : Said

-- of a record's bytes: the address, of w bytes behind the count, and the data, from there to the checksum
abbrev pub address : ℕ → List ℕ → ℕ
address w bs = value_at bs 1 w

abbrev pub payload : ℕ → List ℕ → List ℕ
payload w bs = take (length bs - (w + 2)) (drop (w + 1) bs)

-- first the form: what is asked of it, and a count that is the record's. Then the sum: with the checksum its low byte is all ones
unfoldable pub checked : Bool → List ℕ → Said → Said
checked form bs s =
    cond (form && eqb (length bs) (get_or bs 0 0 + 1))
    (cond (eqb (total bs % 256) 255) s WrongSum)
    Malformed

-- count, address and checksum are there; an end has nothing else
unfoldable pub meaning : Option Kind → List ℕ → Said
meaning (Some (kinds.Data w)) bs = checked (leb (bytes_of w + 2) (length bs)) bs (Data (address (bytes_of w) bs) (payload (bytes_of w) bs))
meaning (Some (kinds.End w)) bs = checked (eqb (length bs) (bytes_of w + 2)) bs (End (address (bytes_of w) bs))
meaning (Some (kinds.Skipped w)) bs = checked (leb (bytes_of w + 2) (length bs)) bs Skipped
meaning None bs = Malformed

unfoldable pub said : List ℕ → Said
said [] = Malformed
said (s ∷ []) = Malformed
said (s ∷ d ∷ t) = cond (eqb s letter_s && is_hex t) (meaning (kind_of d) (unhexed t)) Malformed

-- ---- the lines of a text

unfoldable pub on_first : ℕ → List (List ℕ) → List (List ℕ)
on_first b [] = []
on_first b (l ∷ ls) = (b ∷ l) ∷ ls

-- the lines that an LF ends, without it
unfoldable pub lines : List ℕ → List (List ℕ)
lines [] = []
lines (b ∷ t) = cond (eqb b lf) ([] ∷ lines t) (on_first b (lines t))

-- whether an LF ends the last line too
unfoldable pub ended : List ℕ → Bool
ended [] = true
ended (b ∷ []) = eqb b lf
ended (b ∷ c ∷ t) = ended (c ∷ t)

-- a line without the CR before its LF
unfoldable pub bare : List ℕ → List ℕ
bare [] = []
bare (b ∷ []) = cond (eqb b cr) [] (b ∷ [])
bare (b ∷ c ∷ t) = b ∷ bare (c ∷ t)

abbrev pub is_empty : List ℕ → Bool
is_empty [] = true
is_empty (b ∷ l) = false

unfoldable pub all_empty : List (List ℕ) → Bool
all_empty [] = true
all_empty (l ∷ ls) = is_empty (bare l) && all_empty ls

-- ---- the answer

-- whether bytes for an address are inside n bytes of storage; no bytes always are
unfoldable pub fits : ℕ → ℕ → List ℕ → Bool
fits n a [] = true
fits n a (b ∷ bs) = leb (a + length (b ∷ bs)) n

abbrev pub read_refused : TextReply → ReadAnswer
read_refused n = record { reply = n; start = 0 }

-- the end, with whether what stands behind it may
unfoldable pub end_of : Bool → ℕ → ReadAnswer
end_of clear a = cond clear (record { reply = replies.Done; start = a }) (read_refused replies.Malformed)

-- a line's answer, from what it says, the answer to the lines behind it, and whether those may stand behind an end
unfoldable pub on_line : ℕ → ReadAnswer → Bool → Said → ReadAnswer
on_line n after clear (Data a bs) = cond (fits n a bs) after (read_refused replies.NotInside)
on_line n after clear (End a) = end_of clear a
on_line n after clear Skipped = after
on_line n after clear Malformed = read_refused replies.Malformed
on_line n after clear WrongSum = read_refused replies.WrongSum

-- the answer to lines: the first line that is refused decides, and behind them all an end is missing
unfoldable pub verdict : ℕ → List (List ℕ) → Bool → ReadAnswer
verdict n [] whole = read_refused replies.Malformed
verdict n (l ∷ ls) whole = on_line n (verdict n ls whole) (all_empty ls && whole) (said (bare l))

unfoldable pub answer_to : List ℕ → ℕ → ReadAnswer
answer_to t n = cond (leb n longest) (verdict n (lines t) (ended t)) (read_refused replies.TooLong)

-- ---- storage

-- storage after a line: bytes that are inside are in their places
unfoldable pub stored : Said → Storage → Storage
stored (Data a bs) m = cond (fits (length m) a bs) (sets m a bs) m
stored (End a) m = m
stored Skipped m = m
stored Malformed m = m
stored WrongSum m = m

-- and after lines, in their order, so that later data wins
unfoldable pub placed : List (List ℕ) → Storage → Storage
placed [] m = m
placed (l ∷ ls) m = placed ls (stored (said (bare l)) m)

-- ---- a text

-- the answer, and storage after it
pub record Read : Type 0 where
  pub answer : ReadAnswer
  pub storage : Storage

abbrev pub reading : ReadAnswer → Storage → Read
reading r m = record { answer = r; storage = m }

abbrev pub text_done : TextReply → Bool
text_done replies.Done = true
text_done replies.TooLong = false
text_done replies.NotInside = false
text_done replies.Malformed = false
text_done replies.WrongSum = false
text_done replies.NoRoom = false

-- a text that is accepted goes into storage; one that is refused leaves it as it is
unfoldable pub read_text : List ℕ → Storage → Read
read_text t m =
    let r : ReadAnswer = answer_to t (length m) in
    reading r (cond (text_done r.reply) (placed (lines t) m) m)
