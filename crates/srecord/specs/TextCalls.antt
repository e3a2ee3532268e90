-- The calls of a host on a text and a memory: the answer is the reply's number with 256 times the start address, or with 256 times
-- the count of bytes that were written.
use Rattle.std.specs.Prelude.{ℕ, ◌+◌, ◌*◌}
use mathlib.Core.{List.List}
use Rattle.manual.specs.declared.Reply.TheVariants as core
use Rattle.manual.specs.{Memory.Storage, Reply.number_of}
use Rattle.srecord.specs.declared.{TextReply.TextReply}
use Rattle.srecord.specs.declared.TextReply.TheVariants as replies
use Rattle.srecord.specs.{Reading.Read, Reading.read_text, Writing.Written, Writing.write_text}

-- the core's numbers where it has the reply too, and three of their own
abbrev pub text_number : TextReply → ℕ
text_number replies.Done = number_of core.Done
text_number replies.TooLong = number_of core.TooLong
text_number replies.NotInside = number_of core.NotInside
text_number replies.Malformed = 10
text_number replies.WrongSum = 11
text_number replies.NoRoom = 16

-- the answer, and what is lent to be changed, after it
pub record TextCalled : Type 0 where
  pub answer : ℕ
  pub bytes : List ℕ

abbrev pub text_called : ℕ → List ℕ → TextCalled
text_called n b = record { answer = n; bytes = b }

unfoldable pub read_call : List ℕ → Storage → TextCalled
read_call t m =
    let r : Read = read_text t m in
    text_called (text_number r.answer.reply + 256 * r.answer.start) r.storage

unfoldable pub write_call : Storage → ℕ → ℕ → ℕ → List ℕ → TextCalled
write_call m from count start given =
    let w : Written = write_text m from count start given in
    text_called (text_number w.answer.reply + 256 * w.answer.count) w.text
