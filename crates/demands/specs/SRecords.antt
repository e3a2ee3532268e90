-- S-records in and out. Request P2.
--
-- What is written is read back to the same bytes and start address, of the definition and of the two calls. A refused text leaves memory
-- as it was, and a refused write the lent text. A write fills the bytes of its lines and no other, and a read those that data records name.
-- Which replies there are, each exactly when: of a read line by line. Assumes nothing.
use Rattle.std.specs.Prelude.{ℕ, zero, suc, ◌+◌, ◌*◌, ◌/◌, ◌%◌, ◌^◌, ◌≤◌, ◌<◌, ◌≡◌, Bool, ◌&&◌, ◌↔◌, ◌⊎◌, length, get_or, take, set}
use Prim.{Unit, tt}
use Rattle.std.proofs.Math.Path.{refl, ap}
use Rattle.std.proofs.Common.{sym, ◌∙◌, inl, inr, arith, add-zero, leb-true, leb-false, le-leb, length-append, length-drop, take-append-drop, take_at, drop_at, drop-drop, get_or-set_other}
use Rattle.std.proofs.Math.Bool.{true, false, cond}
use Rattle.std.proofs.lemmas.Bool.{false≢true, lt-leb}
use mathlib.Core.List.{List, [], ◌∷◌, ◌++◌, append_assoc, append-nil}
use Rattle.std.proofs.Math.Dec.{leb}
use Rattle.std.proofs.Math.ListN.{drop}
use Rattle.std.proofs.lemmas.List.Edits.{sets, sets-eq}
use Rattle.std.proofs.Math.Seq.{length-sets}
use Rattle.manual.specs.Memory.{Storage}
use Rattle.manual.specs.Lent.{longest}
use Rattle.srecord.specs.declared.TextReply.{TextReply}
use Rattle.srecord.specs.declared.TextReply.TheVariants as replies
use Rattle.srecord.specs.declared.ReadAnswer.{ReadAnswer}
use Rattle.srecord.specs.Records.{worth}
use Rattle.srecord.specs.Reading.{Said, Data, End, Skipped, Malformed, WrongSum, said, lines, ended, bare, fits, end_of, on_line, all_empty, verdict, stored, placed, Read, reading, read_refused, text_done, answer_to, read_text}
use Rattle.srecord.specs.Writing.{line_of, data_lines, range, text_of, Written, writing, write_refused, write_done, write_text}
use Rattle.srecord.specs.TextCalls.{TextCalled, text_called, text_number, read_call, write_call}
use Rattle.srecord_line.specs.RangeLaws.{range_length, split_lengths}
use Rattle.srecord_read.specs.LineEndLaws.{placed_cons}
use Rattle.demands.specs.Exact.{Bytes, OneOf}
use Rattle.demands.specs.RecordLaws.{bytes_take, bytes_drop, body, lines-line_of, ended-line_of, said_data, said-end, bytes_nil}

-- the reply's number to a text that is read, and to a range that is written
abbrev pub read_reply : List ℕ → Storage → ℕ
read_reply t m = text_number (read_text t m).answer.reply

abbrev pub write_reply : Storage → ℕ → ℕ → ℕ → List ℕ → ℕ
write_reply m from count start given = text_number (write_text m from count start given).answer.reply

-- a text that is accepted, with its start address
abbrev pub accepted : ℕ → ReadAnswer
accepted a = record { reply = replies.Done; start = a }

-- no data record among the lines names the byte j
abbrev pub Untouched : ℕ → List (List ℕ) → Type 0
Untouched j [] = Unit {0}
Untouched j (l ∷ ls) = ((a : ℕ) (bs : List ℕ) → said (bare l) ≡ Data a bs → (j < a) ⊎ (a + length bs ≤ j)) × Untouched j ls

-- a line passes in n bytes of memory: it is skipped, or says data that fits, no bytes or all of them inside
abbrev pub Passes : ℕ → List ℕ → Type 0
Passes n l =
    (said (bare l) ≡ Skipped) ⊎ ((a : ℕ) × ((bs : List ℕ) × ((said (bare l) ≡ Data a bs) × ((length bs ≡ 0) ⊎ (a + length bs ≤ n)))))

abbrev pub AllPass : ℕ → List (List ℕ) → Type 0
AllPass n [] = Unit {0}
AllPass n (l ∷ ls) = Passes n l × AllPass n ls

-- all lines before l pass, and ks stand behind it
pub record Reached (n : ℕ) (ls : List (List ℕ)) (l : List ℕ) (ks : List (List ℕ)) : Type 0 where
  pub before : List (List ℕ)
  pub pass : AllPass n before
  pub split : ls ≡ before ++ (l ∷ ks)

-- a line is reached of which P holds, with the lines behind it
abbrev pub Reaches : ℕ → List (List ℕ) → (List ℕ → List (List ℕ) → Type 0) → Type 0
Reaches n ls P = (l : List ℕ) × ((ks : List (List ℕ)) × (Reached n ls l ks × P l ks))

-- the lines that do not pass: malformed, with a wrong sum, with bytes that are not inside n, and an end, which is the last
-- where nothing but empty lines stands behind it and the text is whole, an LF at its end
abbrev pub IsMalformed : List ℕ → List (List ℕ) → Type 0
IsMalformed l ks = said (bare l) ≡ Malformed

abbrev pub IsWrongSum : List ℕ → List (List ℕ) → Type 0
IsWrongSum l ks = said (bare l) ≡ WrongSum

abbrev pub IsOutside : ℕ → List ℕ → List (List ℕ) → Type 0
IsOutside n l ks = (a : ℕ) × ((bs : List ℕ) × ((said (bare l) ≡ Data a bs) × ((0 < length bs) × (n < a + length bs))))

abbrev pub IsLast : Bool → ℕ → List ℕ → List (List ℕ) → Type 0
IsLast whole a l ks = (said (bare l) ≡ End a) × ((all_empty ks ≡ true) × (whole ≡ true))

abbrev pub IsEarly : Bool → List ℕ → List (List ℕ) → Type 0
IsEarly whole l ks = (a : ℕ) × ((said (bare l) ≡ End a) × ((all_empty ks ≡ false) ⊎ (whole ≡ false)))

-- the form of a text is wrong: a line is malformed, an end is not the last, or it is missing, after all lines
abbrev pub IllFormed : ℕ → List (List ℕ) → Bool → Type 0
IllFormed n ls whole = AllPass n ls ⊎ (Reaches n ls IsMalformed ⊎ Reaches n ls (IsEarly whole))

pub record SRecords : Type 0 where
  -- what we write, we read back: into any memory with room for the range, and into its own, which stays as it is
  pub written-is_read : (m : Storage) (from count start : ℕ) (given : List ℕ) (into : Storage) → Bytes m → start < 2 ^ 32
      → let w : Written = write_text m from count start given in
      write_reply m from count start given ≡ 0 → from + count ≤ length into → length into ≤ longest
      → read_text (take w.answer.count w.text) into ≡ reading (accepted start) (sets into from (range m from count))
  pub written_is_kept : (m : Storage) (from count start : ℕ) (given : List ℕ) → Bytes m → start < 2 ^ 32
      → let w : Written = write_text m from count start given in
      write_reply m from count start given ≡ 0 → read_text (take w.answer.count w.text) m ≡ reading (accepted start) m
  -- the same of the two calls
  pub call_is_read : (m : Storage) (from count start : ℕ) (given : List ℕ) (into : Storage) → Bytes m → start < 2 ^ 32
      → let w : TextCalled = write_call m from count start given in
      w.answer % 256 ≡ 0 → from + count ≤ length into → length into ≤ longest
      → read_call (take (w.answer / 256) w.bytes) into ≡ text_called (256 * start) (sets into from (range m from count))
  pub call_is_kept : (m : Storage) (from count start : ℕ) (given : List ℕ) → Bytes m → start < 2 ^ 32
      → let w : TextCalled = write_call m from count start given in
      w.answer % 256 ≡ 0 → read_call (take (w.answer / 256) w.bytes) m ≡ text_called (256 * start) m
  -- a call's answer is the reply's number with 256 times the start address, or the count of bytes that were written
  pub read_answer : (t : List ℕ) (m : Storage) → ((read_call t m).answer % 256 ≡ read_reply t m) × ((read_call t m).answer / 256 ≡ (read_text t m).answer.start)
  pub write_answer : (m : Storage) (from count start : ℕ) (given : List ℕ)
      → let w : TextCalled = write_call m from count start given in
      (w.answer % 256 ≡ write_reply m from count start given) × (w.answer / 256 ≡ (write_text m from count start given).answer.count)
  -- a refused text leaves memory unchanged, and has no start address; a refused write leaves the lent text, and counts nothing
  pub refused-text : (t : List ℕ) (m : Storage) → (read_reply t m ≡ 0 → ⊥) → ((read_text t m).storage ≡ m) × ((read_text t m).answer.start ≡ 0)
  pub refused_write : (m : Storage) (from count start : ℕ) (given : List ℕ) → (write_reply m from count start given ≡ 0 → ⊥)
      → ((write_text m from count start given).text ≡ given) × ((write_text m from count start given).answer.count ≡ 0)
  -- a write returns its lines' length and fills so many bytes with them; all others are as they were
  pub write_fills : (m : Storage) (from count start : ℕ) (given : List ℕ) → write_reply m from count start given ≡ 0
      → let w : Written = write_text m from count start given in
      ((w.answer.count ≡ length (text_of m from count start)) × (length w.text ≡ length given))
      × ((take w.answer.count w.text ≡ text_of m from count start) × (drop w.answer.count w.text ≡ drop w.answer.count given))
  -- a read changes only bytes that its data records name, and memory stays as long as it was
  pub read_fills : (t : List ℕ) (m : Storage) (j : ℕ) → Untouched j (lines t) → get_or (read_text t m).storage j 0 ≡ get_or m j 0
  pub read_as-long : (t : List ℕ) (m : Storage) → length (read_text t m).storage ≡ length m
  -- data that comes later wins
  pub later_wins : (ls ks : List (List ℕ)) (m : Storage) → placed (ls ++ ks) m ≡ placed ks (placed ls m)
  -- a hex digit is worth the same in either case
  pub either_case : (c : ℕ) → 65 ≤ c → c ≤ 70 → worth (c + 32) ≡ worth c
  -- line by line: lines that pass leave the answer to those behind them, and all lines pass or a first is reached that does not
  pub lines-pass : (n : ℕ) (ls ks : List (List ℕ)) (whole : Bool) → AllPass n ls → verdict n (ls ++ ks) whole ≡ verdict n ks whole
  pub first-decides : (n : ℕ) (ls : List (List ℕ)) → AllPass n ls ⊎ Reaches n ls (λ l ks. Passes n l → ⊥)
  -- the replies to a read, each exactly when: 1 first, for memory that is too long; then what the first line that does not pass is
  -- decides: 10 malformed, 11 a wrong sum, 4 bytes that are not inside, and an end is taken, or 10 where it is not the last;
  -- 10 also for a missing end, after all lines
  pub read-replies : (t : List ℕ) (m : Storage) → OneOf (0 ∷ 1 ∷ 4 ∷ 10 ∷ 11 ∷ []) (read_reply t m)
  pub read_1 : (t : List ℕ) (m : Storage) → (read_reply t m ≡ 1) ↔ (longest < length m)
  pub read_10 : (t : List ℕ) (m : Storage) → (read_reply t m ≡ 10) ↔ ((length m ≤ longest) × IllFormed (length m) (lines t) (ended t))
  pub read_11 : (t : List ℕ) (m : Storage) → (read_reply t m ≡ 11) ↔ ((length m ≤ longest) × Reaches (length m) (lines t) IsWrongSum)
  pub read_4 : (t : List ℕ) (m : Storage) → (read_reply t m ≡ 4) ↔ ((length m ≤ longest) × Reaches (length m) (lines t) (IsOutside (length m)))
  pub read_0 : (t : List ℕ) (m : Storage) (a : ℕ)
      → ((read_text t m).answer ≡ accepted a) ↔ ((length m ≤ longest) × Reaches (length m) (lines t) (IsLast (ended t) a))
  -- a text whose last line has no LF is never taken; `lines` has only those that an LF ends
  pub unended : (t : List ℕ) (m : Storage) → ended t ≡ false → read_reply t m ≡ 0 → ⊥
  -- a record without bytes fits at every address
  pub empty_record_fits : (a start : ℕ) (m : Storage) → a < 2 ^ 32 → start < 2 ^ 32 → length m ≤ longest
      → read_text (line_of 51 a [] ++ line_of 55 start []) m ≡ reading (accepted start) m
  -- the replies to a write, in their order
  pub write_replies : (m : Storage) (from count start : ℕ) (given : List ℕ) → OneOf (0 ∷ 1 ∷ 4 ∷ 16 ∷ []) (write_reply m from count start given)
  pub write_1 : (m : Storage) (from count start : ℕ) (given : List ℕ) → (write_reply m from count start given ≡ 1) ↔ (longest < length m)
  pub write_4 : (m : Storage) (from count start : ℕ) (given : List ℕ)
      → (write_reply m from count start given ≡ 4) ↔ ((length m ≤ longest) × (length m < from + count))
  pub write_16 : (m : Storage) (from count start : ℕ) (given : List ℕ)
      → (write_reply m from count start given ≡ 16)
      ↔ ((length m ≤ longest) × ((from + count ≤ length m) × (length given < length (text_of m from count start))))

-- ---- a write's four cases

module _ (m : Storage) (from count start : ℕ) (given : List ℕ) where
  abbrev text : List ℕ
  text = text_of m from count start

  data Writes : Written → Type 0 where
    long : longest < length m → Writes (writing (write_refused replies.TooLong) given)
    out : length m ≤ longest → length m < from + count → Writes (writing (write_refused replies.NotInside) given)
    short : length m ≤ longest → from + count ≤ length m → length given < length text → Writes (writing (write_refused replies.NoRoom) given)
    wrote : length m ≤ longest → from + count ≤ length m → length text ≤ length given
        → Writes (writing (write_done (length text)) (text ++ drop (length text) given))

  writes : Writes (write_text m from count start given)
  unfolding write_text
  writes = by (leb (length m) longest) refl (leb (from + count) (length m)) refl (leb (length text) (length given)) refl
    where
      by : (x : Bool) → leb (length m) longest ≡ x → (y : Bool) → leb (from + count) (length m) ≡ y → (z : Bool) → leb (length text) (length given) ≡ z
          → Writes
          (cond x
          (cond y
          (cond z (writing (write_done (length text)) (text ++ drop (length text) given)) (writing (write_refused replies.NoRoom) given))
          (writing (write_refused replies.NotInside) given))
          (writing (write_refused replies.TooLong) given))
      by false e y f z g = long (leb-false _ _ e)
      by true e false f z g = out (leb-true _ _ e) (leb-false _ _ f)
      by true e true f false g = short (leb-true _ _ e) (leb-true _ _ f) (leb-false _ _ g)
      by true e true f true g = wrote (leb-true _ _ e) (leb-true _ _ f) (leb-true _ _ g)

  module _ (w : Written) where
    abbrev Told : ℕ → Type 0
    Told n = text_number w.answer.reply ≡ n

  unwritten : {w : Written} → Writes w → (Told w 0 → ⊥) → (w.text ≡ given) × (w.answer.count ≡ 0)
  unwritten (long l) h = (refl, refl)
  unwritten (out l i) h = (refl, refl)
  unwritten (short l i s) h = (refl, refl)
  unwritten (wrote l i s) h = absurd (h refl)

  filled : {w : Written} → Writes w → Told w 0
      → ((w.answer.count ≡ length text) × (length w.text ≡ length given))
      × ((take w.answer.count w.text ≡ text) × (drop w.answer.count w.text ≡ drop w.answer.count given))
  filled (long l) h = absurd (omega arith)
  filled (out l i) h = absurd (omega arith)
  filled (short l i s) h = absurd (omega arith)
  filled (wrote l i s) h = (
    (refl, simp (length-append, length-drop) (omega arith)),
    (take_at text (drop (length text) given) (length text) refl, drop_at text (drop (length text) given) (length text) refl),
  )

  inside : {w : Written} → Writes w → Told w 0 → (from + count ≤ length m) × (length m ≤ longest)
  inside (long l) h = absurd (omega arith)
  inside (out l i) h = absurd (omega arith)
  inside (short l i s) h = absurd (omega arith)
  inside (wrote l i s) h = (i, l)

  told : {w : Written} → Writes w → OneOf (0 ∷ 1 ∷ 4 ∷ 16 ∷ []) (text_number w.answer.reply)
  told (long l) = inr (inl refl)
  told (out l i) = inr (inr (inl refl))
  told (short l i s) = inr (inr (inr (inl refl)))
  told (wrote l i s) = inl refl

  told_1 : {w : Written} → Writes w → Told w 1 ↔ (longest < length m)
  told_1 (long l) = (λ h. l, λ h. refl)
  told_1 (out l i) = (λ h. absurd (omega arith), λ h. absurd (omega arith))
  told_1 (short l i s) = (λ h. absurd (omega arith), λ h. absurd (omega arith))
  told_1 (wrote l i s) = (λ h. absurd (omega arith), λ h. absurd (omega arith))

  told_4 : {w : Written} → Writes w → Told w 4 ↔ ((length m ≤ longest) × (length m < from + count))
  told_4 (long l) = (λ h. absurd (omega arith), λ h. absurd (omega arith))
  told_4 (out l i) = (λ h. (l, i), λ h. refl)
  told_4 (short l i s) = (λ h. absurd (omega arith), λ h. absurd (omega arith))
  told_4 (wrote l i s) = (λ h. absurd (omega arith), λ h. absurd (omega arith))

  told_16 : {w : Written} → Writes w → Told w 16 ↔ ((length m ≤ longest) × ((from + count ≤ length m) × (length given < length text)))
  told_16 (long l) = (λ h. absurd (omega arith), λ h. absurd (omega arith))
  told_16 (out l i) = (λ h. absurd (omega arith), λ h. absurd (omega arith))
  told_16 (short l i s) = (λ h. (l, (i, s)), λ h. refl)
  told_16 (wrote l i s) = (λ h. absurd (omega arith), λ h. absurd (omega arith))

-- ---- a read's five cases

-- bytes that do not fit are some, and not inside
not-fits : (n a : ℕ) (bs : List ℕ) → fits n a bs ≡ false → (0 < length bs) × (n < a + length bs)
unfolding fits
not-fits n a [] h = absurd (false≢true (sym h))
not-fits n a (b ∷ bs) h = (omega arith, leb-false _ _ h)

fits-pass : (n a : ℕ) (bs : List ℕ) → (length bs ≡ 0) ⊎ (a + length bs ≤ n) → fits n a bs ≡ true
unfolding fits
fits-pass n a [] h = refl
fits-pass n a (b ∷ bs) (inl h) = absurd (omega arith)
fits-pass n a (b ∷ bs) (inr h) = le-leb _ _ h

pass_fits : (n a : ℕ) (bs : List ℕ) → fits n a bs ≡ true → (length bs ≡ 0) ⊎ (a + length bs ≤ n)
unfolding fits
pass_fits n a [] h = inl refl
pass_fits n a (b ∷ bs) h = inr (leb-true _ _ h)

outside-fits : (n a : ℕ) (bs : List ℕ) → 0 < length bs → n < a + length bs → fits n a bs ≡ false
unfolding fits
outside-fits n a [] p h = absurd (omega arith)
outside-fits n a (b ∷ bs) p h = lt-leb _ _ h

-- what a line is: it passes, or is one of four
data Line (n : ℕ) (l : List ℕ) : Type 0 where
  passes : Passes n l → Line n l
  ill_formed : said (bare l) ≡ Malformed → Line n l
  ill_summed : said (bare l) ≡ WrongSum → Line n l
  ill_placed : IsOutside n l [] → Line n l
  an_end : (a : ℕ) → said (bare l) ≡ End a → Line n l

line-is : (n : ℕ) (l : List ℕ) → Line n l
line-is n l = by (said (bare l)) refl
  where
    placing : (a : ℕ) (bs : List ℕ) → said (bare l) ≡ Data a bs → (b : Bool) → fits n a bs ≡ b → Line n l
    placing a bs e true f = passes (inr (a, (bs, (e, pass_fits n a bs f))))
    placing a bs e false f = ill_placed (a, (bs, (e, not-fits n a bs f)))

    by : (s : Said) → said (bare l) ≡ s → Line n l
    by (Data a bs) e = placing a bs e (fits n a bs) refl
    by (End a) e = an_end a e
    by Skipped e = passes (inl e)
    by Malformed e = ill_formed e
    by WrongSum e = ill_summed e

pass-verdict : (n : ℕ) (ls ks : List (List ℕ)) (whole : Bool) → AllPass n ls → verdict n (ls ++ ks) whole ≡ verdict n ks whole
unfolding verdict on_line
pass-verdict n [] ks whole h = refl
pass-verdict n (l ∷ ls) ks whole (inl e, h) = rw e (pass-verdict n ls ks whole h)
pass-verdict n (l ∷ ls) ks whole (inr (a, (bs, (e, f))), h) = rw (e, fits-pass n a bs f) (pass-verdict n ls ks whole h)

-- the line that is reached decides, and where all pass the end is missing
reached-verdict : (n : ℕ) (ls : List (List ℕ)) (whole : Bool) (l : List ℕ) (ks : List (List ℕ)) (s : Said) → Reached n ls l ks → said (bare l) ≡ s
    → verdict n ls whole ≡ on_line n (verdict n ks whole) (all_empty ks && whole) s
unfolding verdict
reached-verdict n ls whole l ks s r e = rw r.split (pass-verdict n r.before (l ∷ ks) whole r.pass ∙ rw e)

passed-verdict : (n : ℕ) (ls : List (List ℕ)) (whole : Bool) → AllPass n ls → verdict n ls whole ≡ read_refused replies.Malformed
unfolding verdict
passed-verdict n ls whole h = rw (← append-nil ls) (pass-verdict n ls [] whole h)

-- whether a line passes, of what it says
abbrev passing : ℕ → Said → Bool
passing n (Data a bs) = fits n a bs
passing n (End a) = false
passing n Skipped = true
passing n Malformed = false
passing n WrongSum = false

passes-passing : (n : ℕ) (l : List ℕ) → Passes n l → passing n (said (bare l)) ≡ true
passes-passing n l (inl e) = rw e
passes-passing n l (inr (a, (bs, (e, f)))) = rw e (fits-pass n a bs f)

passes_or_not : (n : ℕ) (l : List ℕ) → Passes n l ⊎ (Passes n l → ⊥)
passes_or_not n l = by (line-is n l)
  where
    never : passing n (said (bare l)) ≡ false → Passes n l → ⊥
    never e p = false≢true (sym e ∙ passes-passing n l p)

    by : Line n l → Passes n l ⊎ (Passes n l → ⊥)
    by (passes p) = inl p
    by (ill_formed e) = inr (never (rw e))
    by (ill_summed e) = inr (never (rw e))
    by (ill_placed (a, (bs, (e, (p, h))))) = inr (never (rw e (outside-fits n a bs p h)))
    by (an_end a e) = inr (never (rw e))

first-reached : (n : ℕ) (ls : List (List ℕ)) → AllPass n ls ⊎ Reaches n ls (λ l ks. Passes n l → ⊥)
first-reached n [] = inl tt
first-reached n (l ∷ ls) = by (passes_or_not n l) (first-reached n ls)
  where
    by : Passes n l ⊎ (Passes n l → ⊥) → AllPass n ls ⊎ Reaches n ls (λ k ks. Passes n k → ⊥)
        → AllPass n (l ∷ ls) ⊎ Reaches n (l ∷ ls) (λ k ks. Passes n k → ⊥)
    by (inr h) r = inr (l, (ls, (record { before = []; pass = tt; split = refl }, h)))
    by (inl p) (inl h) = inl (p, h)
    by (inl p) (inr (k, (ks, (r, h)))) =
        inr (k, (ks, (record { before = l ∷ r.before; pass = (p, r.pass); split = ap (λ (x : List (List ℕ)). l ∷ x) r.split }, h)))

data Answers (n : ℕ) (ls : List (List ℕ)) (whole : Bool) : ReadAnswer → Type 0 where
  taken : (a : ℕ) → Reaches n ls (IsLast whole a) → Answers n ls whole (accepted a)
  outside : Reaches n ls (IsOutside n) → Answers n ls whole (read_refused replies.NotInside)
  malformed : IllFormed n ls whole → Answers n ls whole (read_refused replies.Malformed)
  wrong_sum : Reaches n ls IsWrongSum → Answers n ls whole (read_refused replies.WrongSum)

answers : (n : ℕ) (ls : List (List ℕ)) (whole : Bool) → Answers n ls whole (verdict n ls whole)
unfolding on_line end_of
answers n ls whole = by (first-reached n ls)
  where
    ending : (l : List ℕ) (ks : List (List ℕ)) → Reached n ls l ks → (a : ℕ) → said (bare l) ≡ End a → (x : Bool) → all_empty ks ≡ x → (y : Bool) → whole ≡ y
        → Answers n ls whole (cond (x && y) (accepted a) (read_refused replies.Malformed))
    ending l ks r a e true f true g = taken a (l, (ks, (r, (e, (f, g)))))
    ending l ks r a e true f false g = malformed (inr (inr (l, (ks, (r, (a, (e, inr g)))))))
    ending l ks r a e false f y g = malformed (inr (inr (l, (ks, (r, (a, (e, inl f)))))))

    stop : (l : List ℕ) (ks : List (List ℕ)) → Reached n ls l ks → (Passes n l → ⊥) → Line n l → Answers n ls whole (verdict n ls whole)
    stop l ks r h (passes p) = absurd (h p)
    stop l ks r h (ill_formed e) = rw (reached-verdict n ls whole l ks Malformed r e) (malformed (inr (inl (l, (ks, (r, e))))))
    stop l ks r h (ill_summed e) = rw (reached-verdict n ls whole l ks WrongSum r e) (wrong_sum (l, (ks, (r, e))))
    stop l ks r h (ill_placed (a, (bs, (e, (p, o))))) =
        rw (reached-verdict n ls whole l ks (Data a bs) r e, outside-fits n a bs p o) (outside (l, (ks, (r, (a, (bs, (e, (p, o))))))))
    stop l ks r h (an_end a e) = rw (reached-verdict n ls whole l ks (End a) r e) (ending l ks r a e (all_empty ks) refl whole refl)

    by : AllPass n ls ⊎ Reaches n ls (λ l ks. Passes n l → ⊥) → Answers n ls whole (verdict n ls whole)
    by (inl h) = rw (passed-verdict n ls whole h) (malformed (inl h))
    by (inr (l, (ks, (r, h)))) = stop l ks r h (line-is n l)

abbrev reply_of : ReadAnswer → ℕ
reply_of r = text_number r.reply

either_false : (x y : Bool) → (x ≡ false) ⊎ (y ≡ false) → (x && y) ≡ false
either_false false y h = refl
either_false true y (inl h) = absurd (false≢true (sym h))
either_false true y (inr h) = h

module _ (t : List ℕ) (m : Storage) where
  data Reads : Read → Type 0 where
    long : longest < length m → Reads (reading (read_refused replies.TooLong) m)
    read : {r : ReadAnswer} → length m ≤ longest → Answers (length m) (lines t) (ended t) r → Reads (reading r (cond (text_done r.reply) (placed (lines t) m) m))

  reads : Reads (read_text t m)
  unfolding read_text answer_to
  reads = by (leb (length m) longest) refl
    where
      by : (x : Bool) → leb (length m) longest ≡ x
          → let r : ReadAnswer = cond x (verdict (length m) (lines t) (ended t)) (read_refused replies.TooLong) in
          Reads (reading r (cond (text_done r.reply) (placed (lines t) m) m))
      by false e = long (leb-false _ _ e)
      by true e = read (leb-true _ _ e) (answers (length m) (lines t) (ended t))

  unread : {r : Read} → Reads r → (text_number r.answer.reply ≡ 0 → ⊥) → (r.storage ≡ m) × (r.answer.start ≡ 0)
  unread (long l) h = (refl, refl)
  unread (read l (taken a x)) h = absurd (h refl)
  unread (read l (outside o)) h = (refl, refl)
  unread (read l (malformed x)) h = (refl, refl)
  unread (read l (wrong_sum x)) h = (refl, refl)

  said-to : {r : Read} → Reads r → OneOf (0 ∷ 1 ∷ 4 ∷ 10 ∷ 11 ∷ []) (text_number r.answer.reply)
  said-to (long l) = inr (inl refl)
  said-to (read l (taken a x)) = inl refl
  said-to (read l (outside o)) = inr (inr (inl refl))
  said-to (read l (malformed x)) = inr (inr (inr (inl refl)))
  said-to (read l (wrong_sum x)) = inr (inr (inr (inr (inl refl))))

  said_1 : {r : Read} → Reads r → (text_number r.answer.reply ≡ 1) ↔ (longest < length m)
  said_1 (long l) = (λ h. l, λ h. refl)
  said_1 (read l (taken a x)) = (λ h. absurd (omega arith), λ h. absurd (omega arith))
  said_1 (read l (outside o)) = (λ h. absurd (omega arith), λ h. absurd (omega arith))
  said_1 (read l (malformed x)) = (λ h. absurd (omega arith), λ h. absurd (omega arith))
  said_1 (read l (wrong_sum x)) = (λ h. absurd (omega arith), λ h. absurd (omega arith))

  said_4 : {r : Read} → Reads r → text_number r.answer.reply ≡ 4 → (length m ≤ longest) × Reaches (length m) (lines t) (IsOutside (length m))
  said_4 (long l) h = absurd (omega arith)
  said_4 (read l (taken a x)) h = absurd (omega arith)
  said_4 (read l (outside o)) h = (l, o)
  said_4 (read l (malformed x)) h = absurd (omega arith)
  said_4 (read l (wrong_sum x)) h = absurd (omega arith)

  said_10 : {r : Read} → Reads r → text_number r.answer.reply ≡ 10 → (length m ≤ longest) × IllFormed (length m) (lines t) (ended t)
  said_10 (long l) h = absurd (omega arith)
  said_10 (read l (taken a x)) h = absurd (omega arith)
  said_10 (read l (outside o)) h = absurd (omega arith)
  said_10 (read l (malformed x)) h = (l, x)
  said_10 (read l (wrong_sum x)) h = absurd (omega arith)

  said_11 : {r : Read} → Reads r → text_number r.answer.reply ≡ 11 → (length m ≤ longest) × Reaches (length m) (lines t) IsWrongSum
  said_11 (long l) h = absurd (omega arith)
  said_11 (read l (taken a x)) h = absurd (omega arith)
  said_11 (read l (outside o)) h = absurd (omega arith)
  said_11 (read l (malformed x)) h = absurd (omega arith)
  said_11 (read l (wrong_sum x)) h = (l, x)

  -- the start address is that of the end that is the last
  said_0 : {r : Read} → Reads r → text_number r.answer.reply ≡ 0 → (length m ≤ longest) × Reaches (length m) (lines t) (IsLast (ended t) r.answer.start)
  said_0 (long l) h = absurd (omega arith)
  said_0 (read l (taken a x)) h = (l, x)
  said_0 (read l (outside o)) h = absurd (omega arith)
  said_0 (read l (malformed x)) h = absurd (omega arith)
  said_0 (read l (wrong_sum x)) h = absurd (omega arith)

  said-done : (a : ℕ) → (read_text t m).answer ≡ accepted a → (length m ≤ longest) × Reaches (length m) (lines t) (IsLast (ended t) a)
  said-done a e = rw (ap (λ (r : ReadAnswer). r.start) e) at (said_0 reads (ap reply_of e))

  not-whole : ended t ≡ false → read_reply t m ≡ 0 → ⊥
  not-whole e h = by (said_0 reads h)
    where
      by : (length m ≤ longest) × Reaches (length m) (lines t) (IsLast (ended t) (read_text t m).answer.start) → ⊥
      by (i, (l, (ks, (r, (s, (f, g)))))) = false≢true (sym e ∙ g)

  -- and back: what the reached line says is the answer
  module _ (i : length m ≤ longest) where
    answer-verdict : (read_text t m).answer ≡ verdict (length m) (lines t) (ended t)
    unfolding read_text answer_to
    answer-verdict = rw (le-leb _ _ i)

    answer_at : (l : List ℕ) (ks : List (List ℕ)) (s : Said) → Reached (length m) (lines t) l ks → said (bare l) ≡ s
        → (read_text t m).answer ≡ on_line (length m) (verdict (length m) ks (ended t)) (all_empty ks && ended t) s
    answer_at l ks s r e = answer-verdict ∙ reached-verdict (length m) (lines t) (ended t) l ks s r e

    gives_4 : Reaches (length m) (lines t) (IsOutside (length m)) → read_reply t m ≡ 4
    unfolding on_line
    gives_4 (l, (ks, (r, (a, (bs, (e, (p, o))))))) = ap reply_of (answer_at l ks (Data a bs) r e) ∙ rw (outside-fits (length m) a bs p o)

    gives_11 : Reaches (length m) (lines t) IsWrongSum → read_reply t m ≡ 11
    unfolding on_line
    gives_11 (l, (ks, (r, e))) = ap reply_of (answer_at l ks WrongSum r e)

    gives_10 : IllFormed (length m) (lines t) (ended t) → read_reply t m ≡ 10
    unfolding on_line end_of
    gives_10 (inl h) = ap reply_of (answer-verdict ∙ passed-verdict (length m) (lines t) (ended t) h)
    gives_10 (inr (inl (l, (ks, (r, e))))) = ap reply_of (answer_at l ks Malformed r e)
    gives_10 (inr (inr (l, (ks, (r, (a, (e, f))))))) = ap reply_of (answer_at l ks (End a) r e) ∙ rw (either_false (all_empty ks) (ended t) f)

    gives-done : (a : ℕ) → Reaches (length m) (lines t) (IsLast (ended t) a) → (read_text t m).answer ≡ accepted a
    unfolding on_line end_of
    gives-done a (l, (ks, (r, (e, (f, g))))) = answer_at l ks (End a) r e ∙ rw (f, g)

  -- what the data records keep, a read keeps
  read_keeps : (K : Storage → Type 0) → K m → K (placed (lines t) m) → K (read_text t m).storage
  read_keeps K k p = by reads
    where
      by : {r : Read} → Reads r → K r.storage
      by (long l) = k
      by (read l (taken a x)) = p
      by (read l (outside o)) = k
      by (read l (malformed x)) = k
      by (read l (wrong_sum x)) = k

-- ---- what data records change

sets_elsewhere : (j : ℕ) (bs m : List ℕ) (a : ℕ) → (j < a) ⊎ (a + length bs ≤ j) → get_or (sets m a bs) j 0 ≡ get_or m j 0
sets_elsewhere j [] m a h = refl
sets_elsewhere j (b ∷ bs) m a (inl h) = sets_elsewhere j bs (set m a b) (suc a) (inl (omega arith)) ∙ get_or-set_other m a j b 0 (λ e. omega arith)
sets_elsewhere j (b ∷ bs) m a (inr h) = sets_elsewhere j bs (set m a b) (suc a) (inr (omega arith)) ∙ get_or-set_other m a j b 0 (λ e. omega arith)

-- what the bytes of each data record keep, all of them keep
module _ (K : Storage → Type 0) (Names : Said → Type 0) (keeps : (a : ℕ) (bs : List ℕ) (m : Storage) → Names (Data a bs) → K m → K (sets m a bs)) where
  stored_keeps : (s : Said) (m : Storage) → Names s → K m → K (stored s m)
  unfolding stored
  stored_keeps (Data a bs) m h k = by (fits (length m) a bs)
    where
      by : (b : Bool) → K (cond b (sets m a bs) m)
      by true = keeps a bs m h k
      by false = k
  stored_keeps (End a) m h k = k
  stored_keeps Skipped m h k = k
  stored_keeps Malformed m h k = k
  stored_keeps WrongSum m h k = k

placed_elsewhere : (j : ℕ) (ls : List (List ℕ)) (m : Storage) → Untouched j ls → get_or (placed ls m) j 0 ≡ get_or m j 0
unfolding placed
placed_elsewhere j [] m h = refl
placed_elsewhere j (l ∷ ls) m h =
    placed_elsewhere j ls (stored (said (bare l)) m) h.1
    ∙ stored_keeps (λ b. get_or b j 0 ≡ get_or m j 0) (λ s. (a : ℕ) (bs : List ℕ) → s ≡ Data a bs → (j < a) ⊎ (a + length bs ≤ j))
    (λ a bs b n k. sets_elsewhere j bs b a (n a bs refl) ∙ k) (said (bare l)) m h.0 refl

placed_length : (ls : List (List ℕ)) (m : Storage) → length (placed ls m) ≡ length m
unfolding placed
placed_length [] m = refl
placed_length (l ∷ ls) m =
    placed_length ls (stored (said (bare l)) m)
    ∙ stored_keeps (λ b. length b ≡ length m) (λ s. Unit {0}) (λ a bs b n k. length-sets b a bs ∙ k) (said (bare l)) m tt refl

placed_append : (ls ks : List (List ℕ)) (m : Storage) → placed (ls ++ ks) m ≡ placed ks (placed ls m)
unfolding placed
placed_append [] ks m = refl
placed_append (l ∷ ls) ks m = placed_append ls ks (stored (said (bare l)) m)

worth_case : (c : ℕ) → 65 ≤ c → c ≤ 70 → worth (c + 32) ≡ worth c
unfolding worth
worth_case c l h =
    rw (
      le-leb 48 (c + 32) (omega arith),
      lt-leb (c + 32) 57 (omega arith),
      le-leb 65 (c + 32) (omega arith),
      lt-leb (c + 32) 70 (omega arith),
      le-leb 97 (c + 32) (omega arith),
      le-leb (c + 32) 102 (omega arith),
      le-leb 48 c (omega arith),
      lt-leb c 57 (omega arith),
      le-leb 65 c l,
      le-leb c 70 h,
    )
    (omega arith)

-- ---- stores one after the other

sets-parts : (n : ℕ) (bs m : List ℕ) (a : ℕ) → sets (sets m a (take n bs)) (a + n) (drop n bs) ≡ sets m a bs
sets-parts zero bs m a = rw add-zero
sets-parts (suc n) [] m a = refl
sets-parts (suc n) (b ∷ bs) m a =
    let e : a + suc n ≡ suc a + n = omega arith in
    rw e (sets-parts n bs (set m a b) (suc a))

length_take_under : (n : ℕ) (bs : List ℕ) → length (take n bs) ≤ n
length_take_under zero bs = omega arith
length_take_under (suc n) [] = omega arith
length_take_under (suc n) (b ∷ bs) = omega (arith, length_take_under n bs)

-- a range stored where it was read from changes nothing
sets-range : (m : List ℕ) (from count : ℕ) → from + count ≤ length m → sets m from (range m from count) ≡ m
sets-range m from count h =
    let e : length (range m from count) ≡ count = range_length m from count h in
    sets-eq (range m from count) m from (omega arith)
    ∙ rw e (rw (← drop-drop count from m, append_assoc, take-append-drop count (drop from m)) (take-append-drop from m))

-- ---- lines of data

stored_data : (s : Said) (a : ℕ) (bs m : List ℕ) → s ≡ Data a bs → fits (length m) a bs ≡ true → stored s m ≡ sets m a bs
unfolding stored
stored_data s a bs m e f = rw (e, f)

-- a line of 16 bytes or fewer that stands before others: they decide, over storage with its bytes
module _ (n a : ℕ) (bs t : List ℕ) (l : a < 2 ^ 32) (s : length bs ≤ 16) (b : Bytes bs) (f : fits n a bs ≡ true) where
  verdict-line : verdict n (lines (line_of 51 a bs ++ t)) (ended (line_of 51 a bs ++ t)) ≡ verdict n (lines t) (ended t)
  unfolding verdict on_line
  verdict-line = rw (lines-line_of 51 a bs t (omega arith), ended-line_of 51 a bs t, said_data a bs l s b, f)

  placed-line : (m : Storage) → length m ≡ n → placed (lines (line_of 51 a bs ++ t)) m ≡ placed (lines t) (sets m a bs)
  placed-line m e = rw (lines-line_of 51 a bs t (omega arith), placed_cons, stored_data _ a bs m (said_data a bs l s b) (rw e f))

-- k lines are enough for the bytes, none is without, and where a line is left the bytes are inside n
abbrev Enough : ℕ → ℕ → ℕ → List ℕ → Type 0
Enough k n a bs = ((length bs ≤ 16 * k) × (16 * k < length bs + 16)) × (0 < k → a + length bs ≤ n)

module _ (k n a : ℕ) (bs : List ℕ) (h : Enough (suc k) n a bs) where
  all-inside : a + length bs ≤ n
  all-inside = h.1 (omega arith)

  enough_next : Enough k n (a + 16) (drop 16 bs)
  enough_next = ((rw length-drop (omega arith), rw length-drop (omega arith)), λ p. rw length-drop (omega (arith, all-inside)))

  first_fits : fits n a (take 16 bs) ≡ true
  first_fits = fits-pass n a (take 16 bs) (inr (omega (arith, split_lengths 16 bs, all-inside)))

lines_next : (k a : ℕ) (bs t : List ℕ) → data_lines (suc k) a bs ++ t ≡ line_of 51 a (take 16 bs) ++ (data_lines k (a + 16) (drop 16 bs) ++ t)
unfolding data_lines
lines_next k a bs t = rw append_assoc

no_lines : (a : ℕ) (bs t : List ℕ) → data_lines 0 a bs ++ t ≡ t
unfolding data_lines
no_lines a bs t = refl

verdict_data : (k n a : ℕ) (bs t : List ℕ) → Enough k n a bs → n ≤ longest → Bytes bs
    → verdict n (lines (data_lines k a bs ++ t)) (ended (data_lines k a bs ++ t)) ≡ verdict n (lines t) (ended t)
verdict_data zero n a bs t h l b = rw (no_lines a bs t)
verdict_data (suc k) n a bs t h l b =
    rw (lines_next k a bs t)
    (verdict-line n a (take 16 bs) (data_lines k (a + 16) (drop 16 bs) ++ t) (omega (arith, all-inside k n a bs h)) (length_take_under 16 bs) (bytes_take 16 bs b) (first_fits k n a bs h)
    ∙ verdict_data k n (a + 16) (drop 16 bs) t (enough_next k n a bs h) l (bytes_drop 16 bs b))

placed_data : (k n a : ℕ) (bs t m : List ℕ) → Enough k n a bs → n ≤ longest → Bytes bs → length m ≡ n
    → placed (lines (data_lines k a bs ++ t)) m ≡ placed (lines t) (sets m a bs)
placed_data zero n a [] t m h l b e = rw (no_lines a [] t)
placed_data zero n a (x ∷ bs) t m h l b e = absurd (omega arith)
placed_data (suc k) n a bs t m h l b e =
    rw (lines_next k a bs t)
    (placed-line n a (take 16 bs) (data_lines k (a + 16) (drop 16 bs) ++ t) (omega (arith, all-inside k n a bs h)) (length_take_under 16 bs) (bytes_take 16 bs b) (first_fits k n a bs h) m e
    ∙ placed_data k n (a + 16) (drop 16 bs) t (sets m a (take 16 bs)) (enough_next k n a bs h) l (bytes_drop 16 bs b) (length-sets m a (take 16 bs) ∙ e)
    ∙ ap (placed (lines t)) (sets-parts 16 bs m a))

-- ---- the end

module _ (a : ℕ) (l : a < 2 ^ 32) where
  end-lines : lines (line_of 55 a []) ≡ body 55 a [] ∷ []
  unfolding lines
  end-lines = rw (← append-nil (line_of 55 a [])) (lines-line_of 55 a [] [] (omega arith))

  end-ended : ended (line_of 55 a []) ≡ true
  unfolding ended
  end-ended = rw (← append-nil (line_of 55 a [])) (ended-line_of 55 a [] [])

  end-verdict : (n : ℕ) → verdict n (lines (line_of 55 a [])) (ended (line_of 55 a [])) ≡ accepted a
  unfolding verdict on_line end_of all_empty
  end-verdict n = rw (end-lines, end-ended, said-end a l)

  end-placed : (m : Storage) → placed (lines (line_of 55 a [])) m ≡ m
  unfolding placed stored
  end-placed m = rw (end-lines, said-end a l)

-- ---- a text that was written

-- a text that answers to the lines as its end does, and puts bytes
read_as : (t : List ℕ) (into b : Storage) (start : ℕ) → length into ≤ longest → verdict (length into) (lines t) (ended t) ≡ accepted start → placed (lines t) into ≡ b
    → read_text t into ≡ reading (accepted start) b
unfolding read_text answer_to
read_as t into b start l v p = rw (le-leb _ _ l, v, p)

read_back : (m : Storage) (from count start : ℕ) (into : Storage) → Bytes m → start < 2 ^ 32
    → from + count ≤ length m → from + count ≤ length into → length into ≤ longest
    → read_text (text_of m from count start) into ≡ reading (accepted start) (sets into from (range m from count))
unfolding text_of
read_back m from count start into b s h i l =
    let bs : List ℕ = range m from count in
    let k : ℕ = (count + 15) / 16 in
    let e : length bs ≡ count = range_length m from count h in
    let b' : Bytes bs = bytes_take count (drop from m) (bytes_drop from m b) in
    let g : Enough k (length into) from bs = ((omega arith, omega arith), λ p. omega arith) in
    read_as _ into _ start l
    (verdict_data k (length into) from bs (line_of 55 start []) g l b' ∙ end-verdict start s (length into))
    (placed_data k (length into) from bs (line_of 55 start []) into g l b' refl ∙ end-placed start s (sets into from bs))

empty_fits : (a start : ℕ) (m : Storage) → a < 2 ^ 32 → start < 2 ^ 32 → length m ≤ longest
    → read_text (line_of 51 a [] ++ line_of 55 start []) m ≡ reading (accepted start) m
unfolding fits
empty_fits a start m h s l =
    read_as _ m m start l
    (verdict-line (length m) a [] (line_of 55 start []) h (omega arith) bytes_nil refl ∙ end-verdict start s (length m))
    (placed-line (length m) a [] (line_of 55 start []) h (omega arith) bytes_nil refl m refl ∙ end-placed start s m)

module _ (m : Storage) (from count start : ℕ) (given : List ℕ) (b : Bytes m) (s : start < 2 ^ 32) (r : write_reply m from count start given ≡ 0) where
  abbrev w : Written
  w = write_text m from count start given

  in_range_lem : (from + count ≤ length m) × (length m ≤ longest)
  in_range_lem = inside m from count start given (writes m from count start given) r

  is_read : (into : Storage) → from + count ≤ length into → length into ≤ longest
      → read_text (take w.answer.count w.text) into ≡ reading (accepted start) (sets into from (range m from count))
  is_read into i l =
      rw (filled m from count start given (writes m from count start given) r).1.0 (read_back m from count start into b s in_range_lem.0 i l)

  is-kept : read_text (take w.answer.count w.text) m ≡ reading (accepted start) m
  is-kept = is_read m in_range_lem.0 in_range_lem.1 ∙ rw (sets-range m from count in_range_lem.0)

-- ---- the calls

number-under : (r : TextReply) → text_number r < 256
number-under replies.Done = omega arith
number-under replies.TooLong = omega arith
number-under replies.NotInside = omega arith
number-under replies.Malformed = omega arith
number-under replies.WrongSum = omega arith
number-under replies.NoRoom = omega arith

parts : (n k : ℕ) → n < 256 → ((n + 256 * k) % 256 ≡ n) × ((n + 256 * k) / 256 ≡ k)
parts n k h = (omega arith, omega arith)

read-parts : (t : List ℕ) (m : Storage) → ((read_call t m).answer % 256 ≡ read_reply t m) × ((read_call t m).answer / 256 ≡ (read_text t m).answer.start)
unfolding read_call
read-parts t m = parts _ _ (number-under (read_text t m).answer.reply)

write_parts : (m : Storage) (from count start : ℕ) (given : List ℕ)
    → let w : TextCalled = write_call m from count start given in
    (w.answer % 256 ≡ write_reply m from count start given) × (w.answer / 256 ≡ (write_text m from count start given).answer.count)
unfolding write_call
write_parts m from count start given = parts _ _ (number-under (write_text m from count start given).answer.reply)

-- a call that reads what a call wrote, from what is read of what was written
call_reads : (m : Storage) (from count start : ℕ) (given : List ℕ) (into b : Storage)
    → read_text (take (write_text m from count start given).answer.count (write_text m from count start given).text) into ≡ reading (accepted start) b
    → read_call (take ((write_call m from count start given).answer / 256) (write_call m from count start given).bytes) into ≡ text_called (256 * start) b
unfolding read_call write_call
call_reads m from count start given into b e =
    let z : 0 + 256 * start ≡ 256 * start = omega arith in
    rw ((write_parts m from count start given).1, e, z)

pub s_records : SRecords
s_records = record {
  written-is_read = λ m from count start given into b s r. is_read m from count start given b s r into;
  written_is_kept = λ m from count start given b s r. is-kept m from count start given b s r;
  call_is_read = λ m from count start given into b s r i l.
      call_reads m from count start given into _ (is_read m from count start given b s (sym (write_parts m from count start given).0 ∙ r) into i l);
  call_is_kept = λ m from count start given b s r.
      call_reads m from count start given m m (is-kept m from count start given b s (sym (write_parts m from count start given).0 ∙ r));
  read_answer = read-parts;
  write_answer = write_parts;
  refused-text = λ t m. unread t m (reads t m);
  refused_write = λ m from count start given. unwritten m from count start given (writes m from count start given);
  write_fills = λ m from count start given. filled m from count start given (writes m from count start given);
  read_fills = λ t m j h. read_keeps t m (λ b. get_or b j 0 ≡ get_or m j 0) refl (placed_elsewhere j (lines t) m h);
  read_as-long = λ t m. read_keeps t m (λ b. length b ≡ length m) refl (placed_length (lines t) m);
  later_wins = placed_append;
  either_case = worth_case;
  lines-pass = pass-verdict;
  first-decides = first-reached;
  read-replies = λ t m. said-to t m (reads t m);
  read_1 = λ t m. said_1 t m (reads t m);
  read_10 = λ t m. (said_10 t m (reads t m), λ h. gives_10 t m h.0 h.1);
  read_11 = λ t m. (said_11 t m (reads t m), λ h. gives_11 t m h.0 h.1);
  read_4 = λ t m. (said_4 t m (reads t m), λ h. gives_4 t m h.0 h.1);
  read_0 = λ t m a. (said-done t m a, λ h. gives-done t m h.0 a h.1);
  unended = not-whole;
  empty_record_fits = empty_fits;
  write_replies = λ m from count start given. told m from count start given (writes m from count start given);
  write_1 = λ m from count start given. told_1 m from count start given (writes m from count start given);
  write_4 = λ m from count start given. told_4 m from count start given (writes m from count start given);
  write_16 = λ m from count start given. told_16 m from count start given (writes m from count start given);
}
