-- A text as it is put, part by part.
use Rattle.std.specs.Prelude.{ℕ, ◌+◌, ◌*◌, ◌/◌, ◌≡◌, cond, List, [], ◌++◌, leb, length, Result, Ok, Err}
use Rattle.std.proofs.lemmas.List.Edits.{sets}
use Rattle.manual.specs.Lent.{longest}
use Rattle.srecord.specs.declared.TextReply.{TextReply}
use Rattle.srecord.specs.declared.TextReply.TheVariants as replies
use Rattle.srecord.specs.Writing.{line_of, data_lines}

-- bytes are put into l at i: l' is what it is then, and j is behind them
pub record Puts (l : List ℕ) (i : ℕ) (bytes l' : List ℕ) (j : ℕ) : Type 0 where
  pub put : l' ≡ sets l i bytes
  pub behind : j ≡ i + length bytes

-- the lines of bytes from an address on, and the end
abbrev pub text_from : ℕ → List ℕ → ℕ → List ℕ
text_from a bs start = data_lines ((length bs + 15) / 16) a bs ++ line_of 55 start []

-- their length, for so many bytes
abbrev pub text_size : ℕ → ℕ
text_size count = 15 * ((count + 15) / 16) + 2 * count + 15

-- the length of a range's text, or why it is not written, for a memory of n bytes and a text of so many as are given
abbrev pub room : ℕ → ℕ → ℕ → ℕ → Result ℕ TextReply
room n from count given =
    cond (leb n longest)
    (cond (leb (from + count) n)
    (cond (leb (text_size count) given) (Ok (text_size count)) (Err replies.NoRoom))
    (Err replies.NotInside))
    (Err replies.TooLong)
