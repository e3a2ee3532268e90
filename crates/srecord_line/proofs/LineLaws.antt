-- What a line says, as the code finds it. Assumes nothing.
use Rattle.std.proofs.Common.{◌≡◌, ℕ, ◌-◌, ◌%◌, ◌≤◌, ◌<◌, Bool, true, false, cond, List, [], ◌∷◌, length, length-drop, get_or, take, drop, refl, sym, ap, ◌∙◌, arith, ne_eqb, Option, Some, None, Result, Ok, Err}
use Rattle.manual.specs.Memory.{Storage}
use Rattle.std.proofs.lemmas.List.{take_all}
use Rattle.std.specs.Option.{ok_or}
use Rattle.std.proofs.lemmas.List.Edits.{sets}
use Rattle.srecord.specs.declared.Kind.{Kind}
use Rattle.srecord.specs.declared.Kind.TheVariants as kinds
use Rattle.srecord.specs.Records.{bytes_of, kind_of, is_hex, unhexed, total}
use Rattle.srecord.specs.Reading.{Said, Data, End, Skipped, Malformed, WrongSum, address, payload, checked, meaning, said, stored}
use Rattle.srecord_line.specs.declared.Record.{Record}
use Rattle.srecord_line.specs.declared.Record.TheVariants as records
use Rattle.srecord_line.specs.declared.LineError.{LineError}
use Rattle.srecord_line.specs.declared.LineError.TheVariants as errors
use Rattle.srecord_line.specs.Lines.{record_of, fits_by, is_formed, in_hex}
use Rattle.srecord_line.specs.Pairs.{scanned}
use Rattle.srecord_line.specs.RangeLaws.{fits_length}

-- ---- a record

-- digits that are hex, as a scan has them
pub record Hex (t bs : List ℕ) (s : ℕ) : Type 0 where
  pub hex : is_hex t ≡ true
  pub bytes : bs ≡ unhexed t
  pub low : s ≡ total (unhexed t) % 256

pub hex_of : (t : List ℕ) (p : List ℕ × ℕ) → Some p ≡ scanned t → Hex t p.0 p.1
hex_of t p = go (is_hex t) refl
  where
    right : List ℕ × ℕ
    right = (unhexed t, total (unhexed t) % 256)

    go : (b : Bool) → is_hex t ≡ b → Some p ≡ cond b (Some right) None → Hex t p.0 p.1
    go true h e = let f : p ≡ right = cc in record { hex = h; bytes = ap (λ q. q.0) f; low = ap (λ q. q.1) f }
    go false h e = absurd cc

-- what a record of a kind brings
abbrev pub brings : Kind → List ℕ → Record
brings (kinds.Data w) bs = records.Data (address (bytes_of w) bs) (payload (bytes_of w) bs)
brings (kinds.End w) bs = records.End (address (bytes_of w) bs)
brings (kinds.Skipped w) bs = records.Skipped

pub unread : (k : Kind) (t : List ℕ) → None ≡ scanned t → Err errors.Malformed ≡ record_of (in_hex k t)
unfolding in_hex
unread k t = go (is_hex t)
  where
    right : List ℕ × ℕ
    right = (unhexed t, total (unhexed t) % 256)

    go : (b : Bool) → None ≡ cond b (Some right) None → Err errors.Malformed ≡ record_of (cond b (meaning (Some k) (unhexed t)) Malformed)
    go true e = absurd cc
    go false e = refl

module _ (t bs : List ℕ) (s : ℕ) (h : Hex t bs s) where
  pub unformed : (k : Kind) → is_formed k bs ≡ false → Err errors.Malformed ≡ record_of (in_hex k t)
  unfolding in_hex meaning checked
  unformed (kinds.Data w) f = rw (h.hex, ← h.bytes, f)
  unformed (kinds.End w) f = rw (h.hex, ← h.bytes, f)
  unformed (kinds.Skipped w) f = rw (h.hex, ← h.bytes, f)

  pub wrong_sum : (k : Kind) → is_formed k bs ≡ true → (s ≡ 255 → ⊥) → Err errors.WrongSum ≡ record_of (in_hex k t)
  unfolding in_hex meaning checked
  wrong_sum (kinds.Data w) f n = rw (h.hex, ← h.low, ← h.bytes, f, ne_eqb s 255 n)
  wrong_sum (kinds.End w) f n = rw (h.hex, ← h.low, ← h.bytes, f, ne_eqb s 255 n)
  wrong_sum (kinds.Skipped w) f n = rw (h.hex, ← h.low, ← h.bytes, f, ne_eqb s 255 n)

  pub right_record : (k : Kind) → is_formed k bs ≡ true → s ≡ 255 → Ok (brings k bs) ≡ record_of (in_hex k t)
  unfolding in_hex meaning checked
  right_record (kinds.Data w) f e = rw (h.hex, ← h.low, ← h.bytes, f, e)
  right_record (kinds.End w) f e = rw (h.hex, ← h.low, ← h.bytes, f, e)
  right_record (kinds.Skipped w) f e = rw (h.hex, ← h.low, ← h.bytes, f, e)

-- ---- a line

pub said_short : (l : List ℕ) → length l < 2 → Err errors.Malformed ≡ record_of (said l)
unfolding said
said_short [] h = refl
said_short (x ∷ []) h = refl
said_short (x ∷ y ∷ l) h = absurd (omega arith)

pub said_other : (l : List ℕ) → 2 ≤ length l → (get_or l 0 0 ≡ 83 → ⊥) → Err errors.Malformed ≡ record_of (said l)
unfolding said
said_other [] h n = absurd (omega arith)
said_other (x ∷ []) h n = absurd (omega arith)
said_other (x ∷ y ∷ l) h n = rw (ne_eqb _ _ n)

malformed : (b : Bool) → cond b Malformed Malformed ≡ Malformed
malformed true = refl
malformed false = refl

pub said_unknown : (l : List ℕ) → 2 ≤ length l → get_or l 0 0 ≡ 83 → kind_of (get_or l 1 0) ≡ None → Err errors.Malformed ≡ record_of (said l)
unfolding said meaning
said_unknown [] n h e = absurd (omega arith)
said_unknown (x ∷ []) n h e = absurd (omega arith)
said_unknown (x ∷ y ∷ t) n h e = rw (h, e, malformed (is_hex t))

pub said_record : (k : Kind) (l : List ℕ) → 2 ≤ length l → get_or l 0 0 ≡ 83 → kind_of (get_or l 1 0) ≡ Some k → in_hex k (drop 2 l) ≡ said l
unfolding said in_hex
said_record k [] n h e = absurd (omega arith)
said_record k (x ∷ []) n h e = absurd (omega arith)
said_record k (x ∷ y ∷ t) n h e = rw (h, e)

pub unknown_error : (k : Option Kind) (e : LineError) → k ≡ None → (let r : Result Kind LineError = Err e in r ≡ ok_or k errors.Malformed) → e ≡ errors.Malformed
unknown_error k e n h = cc

pub rest_of : (l : List ℕ) → take (length l - 2) (drop 2 l) ≡ drop 2 l
rest_of l = take_all (length l - 2) (drop 2 l) (rw length-drop (omega arith))

-- ---- storage

abbrev pub stored_by : Result Record LineError → Storage → Storage
stored_by (Ok (records.Data a bs)) m = cond (fits_by (length m) a (length bs)) (sets m a bs) m
stored_by (Ok (records.End a)) m = m
stored_by (Ok records.Skipped) m = m
stored_by (Err e) m = m

by_record : (s : Said) (m : Storage) → stored_by (record_of s) m ≡ stored s m
unfolding stored
by_record (Data a bs) m = rw fits_length
by_record (End a) m = refl
by_record Skipped m = refl
by_record Malformed m = refl
by_record WrongSum m = refl

module _ (s : Said) (m : Storage) where
  module _ (a : ℕ) (bs : List ℕ) (e : Ok (records.Data a bs) ≡ record_of s) where
    pub stored_data : fits_by (length m) a (length bs) ≡ true → sets m a bs ≡ stored s m
    stored_data f = (rw f at (ap (λ r. stored_by r m) e)) ∙ by_record s m

    pub stored_outside : fits_by (length m) a (length bs) ≡ false → m ≡ stored s m
    stored_outside f = (rw f at (ap (λ r. stored_by r m) e)) ∙ by_record s m

  pub stored_none : (r : Result Record LineError) → r ≡ record_of s → stored_by r m ≡ m → m ≡ stored s m
  stored_none r e f = sym f ∙ ap (λ r. stored_by r m) e ∙ by_record s m
