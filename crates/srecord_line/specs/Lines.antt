-- A line as its reader takes it.
use Rattle.std.specs.Prelude.{ℕ, ◌+◌, Bool, true, cond, ◌&&◌, List, eqb, leb, length, get_or, Result, Ok, Err, Some}
use Rattle.srecord.specs.declared.Kind.{Kind}
use Rattle.srecord.specs.declared.Kind.TheVariants as kinds
use Rattle.srecord.specs.declared.TextReply.{TextReply}
use Rattle.srecord.specs.declared.TextReply.TheVariants as replies
use Rattle.srecord.specs.Records.{bytes_of, is_hex, unhexed}
use Rattle.srecord.specs.Reading.{Said, Data, End, Skipped, Malformed, WrongSum, meaning}
use Rattle.srecord_line.specs.declared.Record.{Record}
use Rattle.srecord_line.specs.declared.Record.TheVariants as records
use Rattle.srecord_line.specs.declared.Counted.{Counted}
use Rattle.srecord_line.specs.declared.Counted.TheVariants as counts
use Rattle.srecord_line.specs.declared.LineError.{LineError}
use Rattle.srecord_line.specs.declared.LineError.TheVariants as errors

-- what a line says, with its bytes, or what is wrong with it
abbrev pub record_of : Said → Result Record LineError
record_of (Data a bs) = Ok (records.Data a bs)
record_of (End a) = Ok (records.End a)
record_of Skipped = Ok records.Skipped
record_of Malformed = Err errors.Malformed
record_of WrongSum = Err errors.WrongSum

-- the same with the count of its bytes in their place
abbrev pub counted_of : Said → Result Counted LineError
counted_of (Data a bs) = Ok (counts.Data a (length bs))
counted_of (End a) = Ok (counts.End a)
counted_of Skipped = Ok counts.Skipped
counted_of Malformed = Err errors.Malformed
counted_of WrongSum = Err errors.WrongSum

-- the reply to a text with a wrong line
abbrev pub reply_of : LineError → TextReply
reply_of errors.Malformed = replies.Malformed
reply_of errors.WrongSum = replies.WrongSum

-- whether n bytes for an address are inside so many
abbrev pub fits_by : ℕ → ℕ → ℕ → Bool
fits_by size a n = cond (eqb n 0) true (leb (a + n) size)

-- whether n bytes have the length that a kind asks for
abbrev pub is_long : Kind → ℕ → Bool
is_long (kinds.Data w) n = leb (bytes_of w + 2) n
is_long (kinds.End w) n = eqb n (bytes_of w + 2)
is_long (kinds.Skipped w) n = leb (bytes_of w + 2) n

-- and the count is theirs
abbrev pub is_formed : Kind → List ℕ → Bool
is_formed k bs = is_long k (length bs) && eqb (length bs) (get_or bs 0 0 + 1)

-- what a record of a kind says, of digits
unfoldable pub in_hex : Kind → List ℕ → Said
in_hex k t = cond (is_hex t) (meaning (Some k) (unhexed t)) Malformed
