-- Texts that are put part by part. Assumes nothing.
use Rattle.std.proofs.Common.{◌≡◌, ℕ, zero, suc, ◌+◌, ◌-◌, ◌*◌, ◌/◌, ◌%◌, ◌≤◌, ◌<◌, List, [], ◌∷◌, ◌++◌, length, get_or, take, drop, set, refl, sym, ap, ◌∙◌, arith, add-one, min, Bool, true, false, cond, leb, leb-true, Result, Ok, Err, length-drop, append_assoc, append-nil, length-append, take_at, drop_at}
use Rattle.std.proofs.lemmas.List.{take_all, drop_all, take_more, length-take-le}
use Rattle.std.proofs.lemmas.List.Edits.{sets, sets-eq, paste_all}
use Rattle.std.proofs.lemmas.Slice.{put_mid-paste}
use borrow.Rule.Slice.PartMut.{put_mid}
use Rattle.std.proofs.lemmas.Bool.Decides.{nat_tests}
use Rattle.std.specs.List.{fold}
use Rattle.manual.specs.Lent.{longest}
use Rattle.srecord.specs.declared.TextReply.{TextReply}
use Rattle.srecord.specs.declared.TextReply.TheVariants as replies
use Rattle.std.specs.Int.{w32, to_be_bytes}
use Rattle.srecord.specs.Records.{letter_s, lf, total}
use Rattle.srecord.specs.Writing.{digit, hexed, four, sealed, line_of, data_lines, range, text_of, Written, writing, write_refused, write_done, write_text}
use Rattle.srecord_line.specs.RangeLaws.{sets_then, range_length, split_lengths, total_append}
use Rattle.srecord_write.specs.Puts.{Puts, text_from, text_size, room}

-- ---- one part behind the other

pub puts_then : (l xs m ys n : List ℕ) (i j k : ℕ) → Puts l i xs m j → Puts m j ys n k → Puts l i (xs ++ ys) n k
puts_then l xs m ys n i j k p q =
    record {
      put = q.put ∙ ap (λ t. sets t j ys) p.put ∙ sym (sets_then xs ys l i j p.behind);
      behind = omega (arith, p.behind, q.behind, length-append xs ys);
    }

pub put_whole : (l bytes : List ℕ) (i : ℕ) → i + length bytes ≤ length l → put_mid i (i + length bytes - i) l bytes ≡ sets l i bytes
put_whole l bytes i h =
    put_mid-paste i (i + length bytes - i) l bytes bytes (length bytes) refl (omega arith) refl
    ∙ paste_all l i bytes (length bytes) refl ∙ sym (append_assoc (take i l) bytes (drop (i + length bytes) l)) ∙ sym (sets-eq bytes l i h)

-- ---- digits

hexed_append : (xs ys : List ℕ) → hexed (xs ++ ys) ≡ hexed xs ++ hexed ys
unfolding hexed
hexed_append [] ys = refl
hexed_append (x ∷ xs) ys = rw (hexed_append xs ys)

pub length_hexed : (xs : List ℕ) → length (hexed xs) ≡ 2 * length xs
unfolding hexed
length_hexed [] = refl
length_hexed (x ∷ xs) = omega (arith, length_hexed xs)

-- i bytes are put, and one more
pub hex_more : (l t bytes : List ℕ) (at i : ℕ) → i < length bytes → t ≡ sets l at (hexed (take i bytes))
    → set (set t (at + 2 * i) (digit (get_or bytes i 0 / 16))) (at + 2 * i + 1) (digit (get_or bytes i 0 % 16)) ≡ sets l at (hexed (take (i + 1) bytes))
unfolding hexed
hex_more l t bytes at i h e =
    let b : ℕ = get_or bytes i 0 in
    let n : at + 2 * i ≡ at + length (hexed (take i bytes)) = rw (length_hexed (take i bytes), length-take-le i bytes (omega arith)) in
    rw (take_more bytes i 0 h, hexed_append (take i bytes) (b ∷ []), sets_then (hexed (take i bytes)) (hexed (b ∷ [])) l at (at + 2 * i) n, ← e, add-one)

-- ---- a line

low_sums_from : (s : ℕ) (bs : List ℕ) → s < 256 → fold (λ sum b. (sum + b) % 256) s bs ≡ (s + total bs) % 256
unfolding total
low_sums_from s [] h = omega arith
low_sums_from s (b ∷ bs) h = low_sums_from ((s + b) % 256) bs (omega arith) ∙ over s b (total bs)
  where
    over : (s b t : ℕ) → ((s + b) % 256 + t) % 256 ≡ (s + (b + t)) % 256
    over s b t = omega arith

pub low_sums : (bs : List ℕ) → fold (λ sum b. (sum + b) % 256) 0 bs ≡ total bs % 256
low_sums bs = low_sums_from 0 bs (omega arith) ∙ (let e : 0 + total bs ≡ total bs = omega arith in rw e)

sum_fields : (c a : ℕ) (bs : List ℕ) → total (c ∷ (four a ++ bs)) ≡ c + (total (four a) + total bs)
unfolding total
sum_fields c a bs = rw (total_append (four a) bs)

pub line_split : (d a n : ℕ) (bs : List ℕ) → length bs ≡ n
    → line_of d a bs
    ≡ (letter_s ∷ d ∷ []) ++ (hexed ((n + 5) ∷ []) ++ (hexed (to_be_bytes w32 a) ++ (hexed bs
    ++ (hexed ((255 - (n + 5 + (total (to_be_bytes w32 a) + total bs)) % 256) ∷ []) ++ (lf ∷ [])))))
unfolding line_of sealed
line_split d a n bs e =
    rw (e, hexed_append ((n + 5) ∷ (four a ++ bs)) _, hexed_append ((n + 5) ∷ []) (four a ++ bs), hexed_append (four a) bs, sum_fields (n + 5) a bs)
    (simp append_assoc)

-- ---- a text

chunk_of : (bs xs ys : List ℕ) → bs ≡ xs ++ ys → length xs ≡ min 16 (length bs) → (take 16 bs ≡ xs) × (drop 16 bs ≡ ys)
chunk_of bs xs [] e n =
    let f : bs ≡ xs = e ∙ append-nil xs in
    let l : length bs ≤ 16 = omega (arith, ap length f) in
    (take_all 16 bs l ∙ f, drop_all 16 bs l)
chunk_of bs xs (y ∷ ys) e n =
    let l : length xs ≡ 16 = omega (arith, ap length e, length-append xs (y ∷ ys)) in
    rw e (take_at xs (y ∷ ys) 16 l, drop_at xs (y ∷ ys) 16 l)

-- a chunk and the rest
pub lines_next : (a start : ℕ) (bs xs ys : List ℕ) → bs ≡ xs ++ ys → length xs ≡ min 16 (length bs) → 0 < length bs
    → text_from a bs start ≡ line_of 51 a xs ++ text_from (a + 16) ys start
unfolding data_lines
lines_next a start bs xs ys e n h =
    let k : (length bs + 15) / 16 ≡ suc ((length ys + 15) / 16) = omega (arith, ap length e, length-append xs ys) in
    let c = chunk_of bs xs ys e n in
    rw (k, c.0, c.1, append_assoc)

length_line : (d a : ℕ) (bs : List ℕ) → length (line_of d a bs) ≡ 15 + 2 * length bs
length_line d a bs = rw (line_split d a (length bs) bs refl) (simp (length-append, length_hexed) (omega arith))

-- a chunk is put, and the rest is to come
module _ (t t' bs xs ys : List ℕ) (a start i j : ℕ) (e : bs ≡ xs ++ ys) (n : length xs ≡ min 16 (length bs)) (h : 0 < length bs) (p : Puts t i (line_of 51 a xs) t' j) where
  pub text_next : (w : List ℕ) → sets t i (text_from a bs start) ≡ w → sets t' j (text_from (a + 16) ys start) ≡ w
  text_next w g =
      ap (λ m. sets m j (text_from (a + 16) ys start)) p.put
      ∙ sym (sets_then (line_of 51 a xs) (text_from (a + 16) ys start) t i j p.behind)
      ∙ ap (λ l. sets t i l) (sym (lines_next a start bs xs ys e n h)) ∙ g

  pub text_fits : (size : ℕ) → i + text_size (length bs) ≤ size → j + text_size (length ys) ≤ size
  text_fits size f = omega (arith, p.behind, length_line 51 a xs, ap length e, length-append xs ys)

pub text_last : (a start : ℕ) (bs : List ℕ) → length bs ≡ 0 → text_from a bs start ≡ line_of 55 start []
unfolding data_lines
text_last a start bs h = rw h

length_lines : (k a : ℕ) (bs : List ℕ) → length bs ≤ 16 * k → length (data_lines k a bs) ≡ 15 * k + 2 * length bs
unfolding data_lines
length_lines zero a bs h = omega arith
length_lines (suc k) a bs h =
    rw (length-append (line_of 51 a (take 16 bs)) (data_lines k (a + 16) (drop 16 bs)), length_line 51 a (take 16 bs), length_lines k (a + 16) (drop 16 bs) (rw length-drop (omega arith)))
    (omega (arith, split_lengths 16 bs))

length_text : (m : List ℕ) (from count start : ℕ) → from + count ≤ length m
    → length (text_of m from count start) ≡ text_size count
unfolding text_of
length_text m from count start h =
    let e : length (range m from count) ≡ count = range_length m from count h in
    rw (length-append (data_lines ((count + 15) / 16) from (range m from count)) (line_of 55 start []), length_line 55 start [], length_lines ((count + 15) / 16) from (range m from count) (omega arith), e) (omega arith)

-- ---- a write, by the room for it

abbrev pub by_room : Result ℕ TextReply → List ℕ → List ℕ → Written
by_room (Ok l) t given = writing (write_done l) (t ++ drop l given)
by_room (Err r) t given = writing (write_refused r) given

pub write_by_room : (m : List ℕ) (from count start : ℕ) (given : List ℕ)
    → by_room (room (length m) from count (length given)) (text_of m from count start) given ≡ write_text m from count start given
unfolding write_text
write_by_room m from count start given = go (leb (length m) longest) (leb (from + count) (length m)) refl
  where
    t : List ℕ
    t = text_of m from count start

    need : ℕ
    need = text_size count

    last : (c : Bool) → by_room (cond c (Ok need) (Err replies.NoRoom)) t given ≡ cond c (writing (write_done need) (t ++ drop need given)) (writing (write_refused replies.NoRoom) given)
    last true = refl
    last false = refl

    go : (a b : Bool) → leb (from + count) (length m) ≡ b
        → by_room (cond a (cond b (cond (leb need (length given)) (Ok need) (Err replies.NoRoom)) (Err replies.NotInside)) (Err replies.TooLong)) t given
        ≡ cond a (cond b (cond (leb (length t) (length given)) (writing (write_done (length t)) (t ++ drop (length t) given)) (writing (write_refused replies.NoRoom) given)) (writing (write_refused replies.NotInside) given)) (writing (write_refused replies.TooLong) given)
    go false b e = refl
    go true false e = refl
    go true true e = rw (length_text m from count start (leb-true (from + count) (length m) e)) (last (leb need (length given)))

pub room_found : (n from count given l : ℕ) → Ok l ≡ room n from count given → (from + count ≤ n) × (l ≡ text_size count) × (l ≤ given)
room_found n from count given l e = grind (arith, nat_tests)

-- the range is put in front
pub put_range : (m given : List ℕ) (from count start l : ℕ) → Ok l ≡ room (length m) from count (length given)
    → sets given 0 (text_from from (take (from + count - from) (drop from m)) start) ≡ text_of m from count start ++ drop l given
unfolding text_of
put_range m given from count start l e =
    let r = room_found (length m) from count (length given) l e in
    let c : from + count - from ≡ count = omega arith in
    let n : length (range m from count) ≡ count = range_length m from count r.0 in
    let t : List ℕ = text_of m from count start in
    let q : 0 + length t ≡ l = omega (arith, length_text m from count start r.0, r.1) in
    rw (c, n) (sets-eq t given 0 (omega (arith, r.2)) ∙ rw q)
