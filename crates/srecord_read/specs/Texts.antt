-- A text line by line, as the code goes through it.
use Rattle.std.specs.Prelude.{ℕ, ◌≡◌, Bool, cond, false, ◌&&◌, List, ◌∷◌, ◌++◌, Option, Some, None, Result, Ok, Err, IfErr}
use Rattle.srecord.specs.declared.ReadAnswer.{ReadAnswer}
use Rattle.srecord.specs.declared.TextReply.{TextReply}
use Rattle.srecord.specs.declared.TextReply.TheVariants as replies
use Rattle.srecord.specs.Records.{lf}
use Rattle.srecord.specs.Reading.{Said, Data, End, Skipped, Malformed, WrongSum, fits, lines, ended, all_empty, read_refused, text_done}
use Rattle.srecord_read.specs.LineEndLaws.{NoLf}

-- l is the first line of t, and r is behind its LF
pub record Splits (t l r : List ℕ) : Type 0 where
  pub plain : NoLf l
  pub parts : t ≡ l ++ (lf ∷ r)

unfoldable pub clear_from : List ℕ → Bool
clear_from t = all_empty (lines t) && ended t

-- what a line brings in n bytes of memory: the start address where it is an end, none where the text goes on
unfoldable pub judged : ℕ → Said → Result (Option ℕ) TextReply
judged n (Data a bs) = cond (fits n a bs) (Ok None) (Err replies.NotInside)
judged n (End a) = Ok (Some a)
judged n Skipped = Ok None
judged n Malformed = Err replies.Malformed
judged n WrongSum = Err replies.WrongSum

-- a start address, or why there is none, as an answer
abbrev pub answer_of : Result ℕ TextReply → ReadAnswer
answer_of (Ok a) = record { reply = replies.Done; start = a }
answer_of (Err r) = read_refused r

-- what refuses a text is not that it is done
abbrev pub IsRefusal : Result ℕ TextReply → Type 0
IsRefusal r = IfErr r (λ reply. text_done reply ≡ false)
