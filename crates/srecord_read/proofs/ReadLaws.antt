-- A text line by line. Assumes nothing.
use Rattle.std.proofs.Common.{◌≡◌, ℕ, suc, ◌+◌, ◌-◌, ◌≤◌, ◌<◌, ◌==◌, Bool, true, false, cond, not, ◌&&◌, List, [], ◌∷◌, ◌++◌, length, get_or, take, drop, refl, sym, ap, ◌∙◌, arith, ne_eqb, le-leb, ltb, ltb-false, length-append, length-drop, length-take-le, take-append-drop, drop-cons, Option, Some, None, Result, Ok, Err}
use Rattle.std.proofs.lemmas.Bool.{lt-leb}
use Rattle.std.proofs.lemmas.Bool.Decides.{nat_tests}
use Rattle.std.proofs.lemmas.List.{take_all, take_more}
use Rattle.std.proofs.lemmas.List.Quantifiers.{position-Some}
use Rattle.std.proofs.lemmas.List.Sums.{fails_before_first}
use Rattle.std.specs.List.{position, position_or_len}
use lib.Seq.{get_or-take}
use Rattle.manual.specs.Lent.{longest}
use Rattle.manual.specs.Memory.{Storage}
use Rattle.srecord.specs.declared.TextReply.{TextReply}
use Rattle.srecord.specs.declared.TextReply.TheVariants as replies
use Rattle.srecord.specs.declared.ReadAnswer.{ReadAnswer}
use Rattle.srecord.specs.Records.{lf, cr}
use Rattle.srecord.specs.Reading.{Said, Data, End, Skipped, Malformed, WrongSum, said, bare, fits, lines, ended, is_empty, all_empty, read_refused, end_of, on_line, verdict, stored, placed, text_done, reading, answer_to, read_text}
use Rattle.srecord_line.specs.declared.Record.{Record}
use Rattle.srecord_line.specs.declared.Record.TheVariants as records
use Rattle.srecord_line.specs.declared.Counted.{Counted}
use Rattle.srecord_line.specs.declared.Counted.TheVariants as counts
use Rattle.srecord_line.specs.declared.LineError.{LineError}
use Rattle.srecord_line.specs.Lines.{record_of, counted_of, reply_of, fits_by}
use Rattle.srecord_line.specs.RangeLaws.{fits_length}
use Rattle.srecord_read.specs.LineEndLaws.{NoLf, lines-line, ended-line, lines_none, ended-none, placed_cons}
use Rattle.srecord_read.specs.Texts.{Splits, clear_from, judged, answer_of}

-- ---- the first line

differs : (x : ℕ) → (x == lf) ≡ false → x ≡ lf → ⊥
differs x e f = grind (arith, nat_tests)

past : (a b : ℕ) → None ≡ cond (ltb a b) (Some a) None → b ≤ a
past a b = go (ltb a b) refl
  where
    go : (c : Bool) → ltb a b ≡ c → None ≡ cond c (Some a) None → b ≤ a
    go true e n = absurd cc
    go false e n = ltb-false a b e

pub no_line : (t : List ℕ) → None ≡ position (λ b. b == lf) t → NoLf t
no_line t e k h = differs (get_or t k 0) (fails_before_first (λ b. b == lf) t k 0 (omega (arith, past (position_or_len (λ b. b == lf) t) (length t) e)))

pub first_line : (t : List ℕ) (e : ℕ) → position (λ b. b == lf) t ≡ Some e → Splits t (take e t) (drop (e + 1) t)
first_line t e q =
    let p = position-Some (λ b. b == lf) t e 0 q in
    let h : get_or t e 0 ≡ lf = grind (arith, nat_tests) in
    let f : suc e ≡ e + 1 = omega arith in
    record {
      plain = λ k h f. let l : k < e = omega (arith, length-take-le e t (omega (arith, p.0))) in differs (get_or t k 0) (p.2 k l) (sym (get_or-take e t k 0 l) ∙ f);
      parts = sym (take-append-drop e t) ∙ ap (λ (r : List ℕ). take e t ++ r) (drop-cons t e 0 p.0 ∙ rw (h, f));
    }

pub rest_of : (t : List ℕ) (i : ℕ) → take (length t - i) (drop i t) ≡ drop i t
rest_of t i = take_all (length t - i) (drop i t) (rw length-drop (omega arith))

-- ---- without a CR

bare_cr : (xs : List ℕ) → bare (xs ++ (cr ∷ [])) ≡ xs
unfolding bare
bare_cr [] = refl
bare_cr (x ∷ []) = refl
bare_cr (x ∷ y ∷ xs) = ap (λ (r : List ℕ). x ∷ r) (bare_cr (y ∷ xs))

bare_other : (xs : List ℕ) (b : ℕ) → (b ≡ cr → ⊥) → bare (xs ++ (b ∷ [])) ≡ xs ++ (b ∷ [])
unfolding bare
bare_other [] b h = rw (ne_eqb b cr h)
bare_other (x ∷ []) b h = rw (ne_eqb b cr h)
bare_other (x ∷ y ∷ xs) b h = ap (λ (r : List ℕ). x ∷ r) (bare_other (y ∷ xs) b h)

pub bare_none : (l : List ℕ) → length l < 1 → l ≡ bare l
unfolding bare
bare_none [] h = refl
bare_none (x ∷ l) h = absurd (omega arith)

module _ (l : List ℕ) (h : 1 ≤ length l) where
  last_apart : l ≡ take (length l - 1) l ++ (get_or l (length l - 1) 0 ∷ [])
  last_apart =
      let e : length l - 1 + 1 ≡ length l = omega arith in
      sym (take_all (length l) l (omega arith)) ∙ (rw e at (take_more l (length l - 1) 0 (omega arith)))

  pub bare_front : get_or l (length l - 1) 0 ≡ cr → take (length l - 1) l ≡ bare l
  bare_front e = sym (ap bare last_apart ∙ rw e (bare_cr (take (length l - 1) l)))

  pub bare_whole : (get_or l (length l - 1) 0 ≡ cr → ⊥) → l ≡ bare l
  bare_whole n = sym (ap bare last_apart ∙ bare_other (take (length l - 1) l) (get_or l (length l - 1) 0) n ∙ sym last_apart)

-- ---- a line, and the text behind it

abbrev pub verdict_of : ℕ → List ℕ → ReadAnswer
verdict_of n t = verdict n (lines t) (ended t)

empty_length : (l : List ℕ) → (length l == 0) ≡ is_empty l
empty_length [] = refl
empty_length (x ∷ l) = ne_eqb (length (x ∷ l)) 0 (λ e. omega arith)

module _ (t l r : List ℕ) (g : Splits t l r) where
  lines_here : lines t ≡ l ∷ lines r
  lines_here = ap lines g.parts ∙ lines-line l r g.plain

  ended_here : ended t ≡ ended r
  ended_here = ap ended g.parts ∙ ended-line l r

  pub shorter : length r < length t
  shorter = omega (arith, ap length g.parts, length-append l (lf ∷ r))

  pub verdict_here : (n : ℕ) → on_line n (verdict_of n r) (clear_from r) (said (bare l)) ≡ verdict_of n t
  unfolding verdict clear_from
  verdict_here n = rw (lines_here, ended_here)

  clear_here : clear_from t ≡ (length (bare l) == 0) && clear_from r
  unfolding clear_from all_empty
  clear_here = rw (lines_here, ended_here, ← empty_length (bare l)) (grind (arith, nat_tests))

  pub not_clear : false ≡ (length (bare l) == 0) → false ≡ clear_from t
  not_clear e = rw (clear_here, ← e)

  pub still_clear : true ≡ (length (bare l) == 0) → clear_from r ≡ clear_from t
  still_clear e = rw (clear_here, ← e)

  pub placed_here : (m : Storage) → placed (lines r) (stored (said (bare l)) m) ≡ placed (lines t) m
  placed_here m = sym (ap (λ ls. placed ls m) lines_here ∙ placed_cons l (lines r) m)

module _ (t : List ℕ) (g : NoLf t) where
  pub verdict_end : (n : ℕ) → read_refused replies.Malformed ≡ verdict_of n t
  unfolding verdict
  verdict_end n = rw (lines_none t g)

  pub placed_end : (m : Storage) → m ≡ placed (lines t) m
  unfolding placed
  placed_end m = rw (lines_none t g)

pub clear_end : (t : List ℕ) → NoLf t → (length t == 0) ≡ clear_from t
unfolding clear_from all_empty lines ended
clear_end [] g = refl
clear_end (x ∷ t) g = rw (lines_none (x ∷ t) g, ended-none x t g, ne_eqb (length (x ∷ t)) 0 (λ e. omega arith))

-- ---- what a line brings, by its record

abbrev pub record_judged : ℕ → Result Record LineError → Result (Option ℕ) TextReply
record_judged n (Ok (records.Data a bs)) = cond (fits_by n a (length bs)) (Ok None) (Err replies.NotInside)
record_judged n (Ok (records.End a)) = Ok (Some a)
record_judged n (Ok records.Skipped) = Ok None
record_judged n (Err e) = Err (reply_of e)

pub by_record : (n : ℕ) (r : Result Record LineError) (s : Said) → r ≡ record_of s → record_judged n r ≡ judged n s
unfolding judged
by_record n r s e = ap (record_judged n) e ∙ go s
  where
    go : (s : Said) → record_judged n (record_of s) ≡ judged n s
    go (Data a bs) = rw fits_length
    go (End a) = refl
    go Skipped = refl
    go Malformed = refl
    go WrongSum = refl

module _ (n a : ℕ) (bs : List ℕ) (s : Said) (e : Ok (records.Data a bs) ≡ record_of s) where
  pub by_inside : fits_by n a (length bs) ≡ true → Ok None ≡ judged n s
  by_inside f = rw f at (by_record n (Ok (records.Data a bs)) s e)

  pub by_outside : fits_by n a (length bs) ≡ false → Err replies.NotInside ≡ judged n s
  by_outside f = rw f at (by_record n (Ok (records.Data a bs)) s e)

-- ---- and by the count of its bytes

abbrev pub counted_judged : ℕ → Result Counted LineError → Result (Option ℕ) TextReply
counted_judged n (Ok (counts.Data a count)) = cond (fits_by n a count) (Ok None) (Err replies.NotInside)
counted_judged n (Ok (counts.End a)) = Ok (Some a)
counted_judged n (Ok counts.Skipped) = Ok None
counted_judged n (Err e) = Err (reply_of e)

pub by_counted : (n : ℕ) (r : Result Counted LineError) (s : Said) → r ≡ counted_of s → counted_judged n r ≡ judged n s
unfolding judged
by_counted n r s e = ap (counted_judged n) e ∙ go s
  where
    go : (s : Said) → counted_judged n (counted_of s) ≡ judged n s
    go (Data a bs) = rw fits_length
    go (End a) = refl
    go Skipped = refl
    go Malformed = refl
    go WrongSum = refl

module _ (n a count : ℕ) (s : Said) (e : Ok (counts.Data a count) ≡ counted_of s) where
  pub by_count_inside : fits_by n a count ≡ true → Ok None ≡ judged n s
  by_count_inside f = rw f at (by_counted n (Ok (counts.Data a count)) s e)

  pub by_count_outside : fits_by n a count ≡ false → Err replies.NotInside ≡ judged n s
  by_count_outside f = rw f at (by_counted n (Ok (counts.Data a count)) s e)

-- ---- and for the text

abbrev pub answers : Result (Option ℕ) TextReply → ReadAnswer → Bool → ReadAnswer
answers (Ok None) after clear = after
answers (Ok (Some a)) after clear = end_of clear a
answers (Err r) after clear = read_refused r

by_judged : (n : ℕ) (after : ReadAnswer) (clear : Bool) (s : Said) → on_line n after clear s ≡ answers (judged n s) after clear
unfolding on_line judged
by_judged n after clear (Data a bs) = go (fits n a bs)
  where
    go : (b : Bool) → cond b after (read_refused replies.NotInside) ≡ answers (cond b (Ok None) (Err replies.NotInside)) after clear
    go true = refl
    go false = refl
by_judged n after clear (End a) = refl
by_judged n after clear Skipped = refl
by_judged n after clear Malformed = refl
by_judged n after clear WrongSum = refl

-- what refuses a text is not that it is done
is_refusal : Result (Option ℕ) TextReply → Bool
is_refusal (Ok o) = true
is_refusal (Err r) = not (text_done r)

refuses : (n : ℕ) (s : Said) → is_refusal (judged n s) ≡ true
unfolding judged is_refusal
refuses n (Data a bs) = go (fits n a bs)
  where
    go : (b : Bool) → is_refusal (cond b (Ok None) (Err replies.NotInside)) ≡ true
    go true = refl
    go false = refl
refuses n (End a) = refl
refuses n Skipped = refl
refuses n Malformed = refl
refuses n WrongSum = refl

-- n bytes are not too many, and what is left, t, has the answer of the whole, w
module _ (n : ℕ) (t w : List ℕ) (small : n ≤ longest) (i : verdict_of n t ≡ verdict_of n w) where
  not_long : verdict_of n t ≡ answer_to w n
  unfolding answer_to
  not_long = i ∙ rw (le-leb n longest small)

  pub ends_bad : NoLf t → read_refused replies.Malformed ≡ answer_to w n
  ends_bad g = verdict_end t g n ∙ not_long

  module _ (l r : List ℕ) (g : Splits t l r) (q : Result (Option ℕ) TextReply) (e : q ≡ judged n (said (bare l))) where
    step : (x : Result (Option ℕ) TextReply) → q ≡ x → answers x (verdict_of n r) (clear_from r) ≡ verdict_of n t
    step x f = sym (by_judged n (verdict_of n r) (clear_from r) (said (bare l)) ∙ ap (λ y. answers y (verdict_of n r) (clear_from r)) (sym e ∙ f)) ∙ verdict_here t l r g n

    pub goes : q ≡ Ok None → verdict_of n r ≡ verdict_of n w
    goes f = step (Ok None) f ∙ i

    pub ends : (a : ℕ) → q ≡ Ok (Some a) → end_of (clear_from r) a ≡ answer_to w n
    ends a f = step (Ok (Some a)) f ∙ not_long

    pub stops : (x : TextReply) → q ≡ Err x → (read_refused x ≡ answer_to w n) × (text_done x ≡ false)
    unfolding is_refusal
    stops x f =
        let d : not (text_done x) ≡ true = sym (ap is_refusal (sym e ∙ f)) ∙ refuses n (said (bare l)) in
        (step (Err x) f ∙ not_long, grind (arith, nat_tests))

-- ---- a call

pub too_long : (t : List ℕ) (n : ℕ) → longest < n → read_refused replies.TooLong ≡ answer_to t n
unfolding answer_to
too_long t n h = rw (lt-leb n longest h)

module _ (t m : List ℕ) where
  pub read_done : (a : ℕ) → answer_of (Ok a) ≡ answer_to t (length m) → reading (answer_of (Ok a)) (placed (lines t) m) ≡ read_text t m
  unfolding read_text
  read_done a e = rw (← e)

  pub read_not : (r : TextReply) → text_done r ≡ false → answer_of (Err r) ≡ answer_to t (length m) → reading (answer_of (Err r)) m ≡ read_text t m
  unfolding read_text
  read_not r f e = rw (← e, f)
