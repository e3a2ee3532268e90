-- Lists put into a text part by part, the digits as the code makes them, registers in a row, and the length of what is printed.
-- Assumes nothing.
use Rattle.std.proofs.Common.{◌≡◌, ℕ, zero, suc, ◌+◌, ◌-◌, ◌*◌, ◌/◌, ◌%◌, ◌^◌, ◌≤◌, ◌<◌, Bool, true, false, cond, List, [], ◌∷◌, ◌++◌, length, get_or, take, drop, replicate, length-append, length-drop, length-take-le, refl, ap, ◌∙◌, arith, append_assoc, append-nil, add-zero, zero-add, add-one, add_assoc, add_comm}
use Rattle.std.proofs.lemmas.List.{get_or-take}
use Rattle.std.proofs.Math.Seq.{take-suc}
use native.Mathlib.Nat.{pow-succ'}
use borrow.Author.Tests.{lt-ltb, le-ltb, lt-leb}
use lib.Dec.{ltb}
use lib.Seq.{get_or-drop, take_all, set-append_seam}
use Rattle.manual.specs.declared.Cpu.{Cpu}
use Rattle.manual.specs.declared.Reply.{Reply}
use Rattle.manual.specs.Reply.{number_of}
use Rattle.manual.specs.Image.{Printed, digit, hex, decimal, longs, space, newline, answer_line, steps_line, pc_line, sr_line, data_line, address_line, other_line, macsr_line, run_text, printed, text_of}
use Rattle.image.specs.declared.Text.{Text}
use Rattle.image.specs.Texts.{none, put, appended}

-- ---- part by part

pub appended_append : (t : Text) (xs ys : List ℕ) → appended t (xs ++ ys) ≡ appended (appended t xs) ys
unfolding appended
appended_append t [] ys = refl
appended_append t (x ∷ xs) ys = appended_append (put t x) xs ys

pub appended_none : (t : Text) → appended t [] ≡ t
unfolding appended
appended_none t = refl

pub appended_one : (t : Text) (b : ℕ) → appended t (b ∷ []) ≡ put t b
unfolding appended
appended_one t b = refl

-- one more of a list
pub appended-more : (t : Text) (w : List ℕ) (i : ℕ) → i < length w → appended t (take (i + 1) w) ≡ put (appended t (take i w)) (get_or w i 0)
appended-more t w i h = rw (add-one, take-suc w i 0, appended_append, appended_one)

-- a name and what is after it, and the end of the line
pub appended-line : (t : Text) (xs ys : List ℕ) (b : ℕ) → appended t (xs ++ (ys ++ (b ∷ []))) ≡ put (appended (appended t xs) ys) b
appended-line t xs ys b =
    appended_append t xs (ys ++ (b ∷ [])) ∙ appended_append (appended t xs) ys (b ∷ []) ∙ appended_one (appended (appended t xs) ys) b

-- the lines after the first
pub appended-lines : (t : Text) (a b c d e f g : List ℕ) → appended t (a ++ (b ++ (c ++ (d ++ (e ++ (f ++ g))))))
    ≡ appended (appended (appended (appended (appended (appended (appended t a) b) c) d) e) f) g
appended-lines t a b c d e f g = simp appended_append

-- ---- digits

pub hex-none : (v : ℕ) → hex 0 v ≡ []
unfolding hex
hex-none v = refl

pub hex-more : (n m v : ℕ) → n ≡ suc m → hex n v ≡ hex m (v / 16) ++ (digit (v % 16) ∷ [])
unfolding hex
hex-more n m v e = rw e

-- the answer's line, as it is put
pub answer_is : (n : Reply) (v : ℕ) → v ≡ number_of n → v < 10 → (97 ∷ 110 ∷ 115 ∷ 119 ∷ 101 ∷ 114 ∷ space ∷ []) ++ (hex 1 v ++ (newline ∷ [])) ≡ answer_line n
unfolding hex answer_line
answer_is n v e h = let m : v % 16 ≡ v = omega arith in rw (m, e)

pub decimal-one : (v : ℕ) → v < 10 → decimal 10 v ≡ digit v ∷ []
unfolding decimal
decimal-one v h = rw (lt-ltb v 10 h)

-- more digits than a number has change nothing
decimal_enough : (n v : ℕ) → v < 10 ^ suc n → decimal (suc (suc n)) v ≡ decimal (suc n) v
unfolding decimal
decimal_enough zero v h = let l : v < 10 = omega (arith, h) in rw (lt-ltb v 10 l)
decimal_enough (suc n) v h = rw (decimal_enough n (v / 10) (omega (arith, pow-succ' 10 (suc n))))

decimal_step : (v : ℕ) → 10 ≤ v → decimal 10 v ≡ decimal 9 (v / 10) ++ (digit (v % 10) ∷ [])
unfolding decimal
decimal_step v low = rw (le-ltb v 10 low)

pub decimal-more : (v : ℕ) → 10 ≤ v → v < 2 ^ 32 → decimal 10 v ≡ decimal 10 (v / 10) ++ (digit (v % 10) ∷ [])
decimal-more v low high = rw (decimal_step v low, ← decimal_enough 8 (v / 10) (omega arith))

-- ---- registers

longs-suc : (g : List ℕ) (i n : ℕ) → longs g i (suc n) ≡ longs g i n ++ (space ∷ hex 8 (get_or g (i + n) 0))
unfolding longs
longs-suc g i zero = rw (append-nil, add-zero)
longs-suc g i (suc n) =
    let e : i + 1 + n ≡ i + suc n = omega arith in
    rw (longs-suc g (i + 1) n, append_assoc, e)

pub longs-none : (g : List ℕ) → longs g 0 0 ≡ []
unfolding longs
longs-none g = refl

-- one more register
pub longs-more : (g : List ℕ) (n : ℕ) → longs g 0 (n + 1) ≡ longs g 0 n ++ (space ∷ hex 8 (get_or g n 0))
longs-more g n = rw (add-one n, longs-suc g 0 n, zero-add)

pub longs-put : (t : Text) (g : List ℕ) (n : ℕ) → appended t (longs g 0 (n + 1)) ≡ appended (put (appended t (longs g 0 n)) space) (hex 8 (get_or g n 0))
unfolding appended
longs-put t g n = rw (longs-more g n) (appended_append t (longs g 0 n) (space ∷ hex 8 (get_or g n 0)))

-- the registers of a part
longs-part : (g h : List ℕ) (i j n : ℕ) → ((k : ℕ) → k < n → get_or g (i + k) 0 ≡ get_or h (j + k) 0) → longs g i n ≡ longs h j n
unfolding longs
longs-part g h i j zero e = refl
longs-part g h i j (suc n) e =
    let first : get_or g i 0 ≡ get_or h j 0 = simp add-zero at (e 0 (omega arith)) in
    let next : longs g (i + 1) n ≡ longs h (j + 1) n =
    longs-part g h (i + 1) (j + 1) n (λ k l. simp add_assoc (simp (add_comm 1 k) (e (k + 1) (omega arith)))) in
    rw (first, next)

-- the two halves
pub longs-front : (g : List ℕ) → length g ≡ 16 → longs (take 8 g) 0 (length (take 8 g)) ≡ longs g 0 8
longs-front g h =
    rw (length-take-le 8 g (omega arith))
    (longs-part (take 8 g) g 0 0 8 (λ k l. get_or-take 8 g (0 + k) 0 (omega arith)))

pub longs-back : (g : List ℕ) → length g ≡ 16 → longs (take (length g - 8) (drop 8 g)) 0 (length (take (length g - 8) (drop 8 g))) ≡ longs g 8 8
longs-back g h =
    rw (take_all (length g - 8) (drop 8 g) (rw length-drop (omega arith)), length-drop 8 g, h)
    (longs-part (drop 8 g) g 0 8 8 (λ k l. rw (zero-add, get_or-drop)))

-- ---- lengths

length_hex : (n v : ℕ) → length (hex n v) ≡ n
unfolding hex
length_hex zero v = refl
length_hex (suc n) v = length-append (hex n (v / 16)) _ ∙ rw (length_hex n (v / 16)) (omega arith)

length_decimal : (n v : ℕ) → length (decimal n v) ≤ n
unfolding decimal
length_decimal zero v = omega arith
length_decimal (suc n) v =
    either (ltb v 10) (digit v) (decimal n (v / 10)) (digit (v % 10)) (length_decimal n (v / 10))
  where
    either : (b : Bool) (x : ℕ) (l : List ℕ) (y : ℕ) → length l ≤ n → length (cond b (x ∷ []) (l ++ (y ∷ []))) ≤ suc n
    either true x l y h = omega arith
    either false x l y h = simp length-append (omega arith)

length_longs : (g : List ℕ) (i n : ℕ) → length (longs g i n) ≡ n * 9
unfolding longs
length_longs g i zero = refl
length_longs g i (suc n) =
    length-append (space ∷ hex 8 (get_or g i 0)) (longs g (i + 1) n) ∙ rw (length_hex 8 (get_or g i 0), length_longs g (i + 1) n) (omega arith)

pub answer-fits : (n : Reply) → length (answer_line n) ≤ 256
unfolding answer_line
answer-fits n = omega arith

pub run_fits : (n : Reply) (count : ℕ) (s : Cpu) → length (run_text n count s) ≤ 256
unfolding run_text answer_line steps_line pc_line sr_line data_line address_line other_line macsr_line
run_fits n count s = simp (length-append, length_hex, length_longs) (omega (arith, length_decimal 10 count))

-- ---- from what a text shows to what it shows with more put into it

unfoldable filled : List ℕ → Text
filled xs = record { bytes = xs ++ replicate (256 - length xs) 0; len = length xs }

put-filled : (xs : List ℕ) (b : ℕ) → length xs < 256 → put (filled xs) b ≡ filled (xs ++ (b ∷ []))
unfolding put filled
put-filled xs b h =
    let e : 256 - length xs ≡ suc (255 - length xs) = omega arith in
    let r : 256 - (length xs + 1) ≡ 255 - length xs = omega arith in
    rw (lt-leb 256 (length xs) h, e, set-append_seam, append_assoc, length-append xs (b ∷ []), r)

appended-filled : (xs ys : List ℕ) → length xs + length ys ≤ 256 → appended (filled xs) ys ≡ filled (xs ++ ys)
unfolding appended
appended-filled xs [] h = rw append-nil
appended-filled xs (y ∷ ys) h =
    rw (put-filled xs y (omega arith)) (appended-filled (xs ++ (y ∷ [])) ys (simp length-append (omega arith)) ∙ rw append_assoc)

shows : (t : Text) (xs : List ℕ) → printed t.bytes t.len ≡ text_of xs → t ≡ filled xs
unfolding filled text_of
shows t xs e = ap (λ (p : Printed). record { bytes = p.bytes; len = p.len }) e

shown : (xs : List ℕ) → printed (filled xs).bytes (filled xs).len ≡ text_of xs
unfolding filled text_of
shown xs = refl

pub more_shown : (t u : Text) (xs ys : List ℕ) → printed t.bytes t.len ≡ text_of xs → u ≡ appended t ys → length (xs ++ ys) ≤ 256 → printed u.bytes u.len ≡ text_of (xs ++ ys)
more_shown t u xs ys before e h =
    rw (e, shows t xs before, appended-filled xs ys (omega (arith, length-append xs ys))) (shown (xs ++ ys))

pub none_shown : printed none.bytes none.len ≡ text_of []
unfolding none text_of
none_shown = refl
