-- What products and quotients of longs read: the second word, the operand's value, the next address and the operand's move.
use Rattle.std.specs.Prelude.{ℕ, ◌≡◌, refl, List, Result, Ok, Err}
use Rattle.manual.specs.declared.Fault.{Fault}
use Rattle.manual.specs.declared.Size.TheVariants.{Word, Long}
use Rattle.manual.specs.declared.Source.{Source}
use Rattle.manual.specs.declared.Write.{Write}
use Rattle.manual.specs.declared.Change.{Change}
use Rattle.manual.specs.Word.{plus}
use Rattle.manual.specs.Memory.{Memory, load}
use Rattle.manual.specs.Address.{source}
use Rattle.manual.specs.Change.{refused, reading}
use Rattle.instructions.specs.Line4.{with_word_and_long, mul_l_by, mul_l, div_l_by, div_l}
use Rattle.line4.specs.declared.single.WordAndLong.{WordAndLong}

abbrev pub long_by : ℕ → Source → Result ℕ Fault → Result WordAndLong Fault
long_by w from (Ok v) = Ok (record { word = w; long = v; next = from.next; moved = from.moved })
long_by w from (Err x) = Err x

abbrev pub word_by : Result ℕ Fault → Source → Result WordAndLong Fault
word_by (Ok w) from = long_by w from from.got
word_by (Err x) from = Err x

unfoldable pub word_and_long : List ℕ → ℕ → Memory → ℕ → Result WordAndLong Fault
word_and_long g at m op =
    let pc : ℕ = plus at 2 in
    word_by (load m pc Word) (source g m (plus pc 2) op Long)

abbrev pub after : Result WordAndLong Fault → (ℕ → Source → ℕ → Change) → Change
after (Ok r) f = f r.word (record { got = Ok r.long; next = r.next; moved = r.moved }) r.long
after (Err x) f = refused x

by-long : (w : ℕ) (got : Result ℕ Fault) (next : ℕ) (one : Write) (f : ℕ → Source → ℕ → Change)
    → let from : Source = record { got = got; next = next; moved = one } in reading got (f w from) ≡ after (long_by w from got) f
by-long w (Ok v) next one f = refl
by-long w (Err x) next one f = refl

by_word : (got : Result ℕ Fault) (from : Source) (f : ℕ → Source → ℕ → Change)
    → reading got (λ w. reading from.got (f w from)) ≡ after (word_by got from) f
by_word (Ok w) from f = by-long w from.got from.next from.moved f
by_word (Err x) from f = refl

module _ (g : List ℕ) (at sr : ℕ) (m : Memory) (op : ℕ) where
  -- what goes on with the word and the operand does so after they are read
  goes : (f : ℕ → Source → ℕ → Change) → with_word_and_long g at m op f ≡ after (word_and_long g at m op) f
  unfolding word_and_long
  goes f = by_word (load m (plus at 2) Word) (source g m (plus (plus at 2) 2) op Long) f

  pub multiply_goes : mul_l g at sr m op ≡ after (word_and_long g at m op) (mul_l_by g sr)
  unfolding mul_l
  multiply_goes = goes (mul_l_by g sr)

  pub divide_goes : div_l g at sr m op ≡ after (word_and_long g at m op) (div_l_by g sr)
  unfolding div_l
  divide_goes = goes (div_l_by g sr)
