-- Digits, lines and records that are written are read back. Assumes nothing.
use Rattle.std.specs.Prelude.{ℕ, zero, suc, ◌+◌, ◌-◌, ◌*◌, ◌/◌, ◌%◌, ◌^◌, ◌≤◌, ◌<◌, ◌≡◌, refl, Bool, true, false, cond, List, [], ◌∷◌, ◌++◌, ltb, length, get_or, take, drop}
use Prim.{Unit, tt}
use Rattle.std.proofs.Common.{sym, ap, ◌∙◌, append_assoc, arith, ltb-true, ltb-false, lt-ltb, le-ltb, le-leb, eq-eqb, ne_eqb, length-append, take_at}
use Rattle.std.proofs.Math.Nat.{div-div-eq-div-mul}
use Rattle.std.proofs.lemmas.Bool.{lt-leb}
use Rattle.srecord.specs.Records.{letter_s, kind_of, worth, is_hex, unhexed, total}
use Rattle.srecord.specs.Reading.{Said, Data, End, said, checked, meaning, lines, ended, bare}
use Rattle.srecord.specs.Writing.{digit, hexed, four, sealed, line_of}
use Rattle.srecord_line.specs.RangeLaws.{total_append}
use Rattle.srecord_read.specs.LineEndLaws.{NoLf, lines-line, ended-line}
use Rattle.manual.specs.Memory.{value_at}
use Rattle.demands.specs.Exact.{Bytes}

pub bytes_take : (n : ℕ) (l : List ℕ) → Bytes l → Bytes (take n l)
bytes_take zero l h j = omega arith
bytes_take (suc n) [] h j = omega arith
bytes_take (suc n) (x ∷ l) h zero = h zero
bytes_take (suc n) (x ∷ l) h (suc j) = bytes_take n l (λ i. h (suc i)) j

pub bytes_drop : (n : ℕ) (l : List ℕ) → Bytes l → Bytes (drop n l)
bytes_drop zero l h j = h j
bytes_drop (suc n) [] h j = omega arith
bytes_drop (suc n) (x ∷ l) h j = bytes_drop n l (λ i. h (suc i)) j

bytes_append : (xs ys : List ℕ) → Bytes xs → Bytes ys → Bytes (xs ++ ys)
bytes_append [] ys h k j = k j
bytes_append (x ∷ xs) ys h k zero = h zero
bytes_append (x ∷ xs) ys h k (suc j) = bytes_append xs ys (λ i. h (suc i)) k j

bytes_cons : (x : ℕ) (xs : List ℕ) → x < 256 → Bytes xs → Bytes (x ∷ xs)
bytes_cons x xs h k zero = h
bytes_cons x xs h k (suc j) = k j

pub bytes_nil : Bytes []
bytes_nil j = omega arith

-- ---- digits

worth-low : (d : ℕ) → d < 10 → worth (digit d) ≡ d
unfolding worth digit
worth-low d h =
    rw (lt-ltb d 10 h, le-leb 48 (48 + d) (omega arith), le-leb (48 + d) 57 (omega arith)) (omega arith)

worth-high : (d : ℕ) → 10 ≤ d → d < 16 → worth (digit d) ≡ d
unfolding worth digit
worth-high d l h =
    rw (le-ltb d 10 l, le-leb 48 (55 + d) (omega arith), lt-leb (55 + d) 57 (omega arith), le-leb 65 (55 + d) (omega arith), le-leb (55 + d) 70 (omega arith)) (omega arith)

worth-digit : (d : ℕ) → d < 16 → worth (digit d) ≡ d
worth-digit d h = go (ltb d 10) refl
  where
    go : (b : Bool) → ltb d 10 ≡ b → worth (digit d) ≡ d
    go true e = worth-low d (ltb-true d 10 e)
    go false e = worth-high d (ltb-false d 10 e) h

is_hex-hexed : (bs : List ℕ) → Bytes bs → is_hex (hexed bs) ≡ true
unfolding is_hex hexed
is_hex-hexed [] h = refl
is_hex-hexed (b ∷ bs) h =
    let l : b < 256 = h 0 in
    rw (worth-digit (b / 16) (omega arith), worth-digit (b % 16) (omega arith), lt-ltb (b / 16) 16 (omega arith), lt-ltb (b % 16) 16 (omega arith))
    (is_hex-hexed bs (λ i. h (suc i)))

unhexed-hexed : (bs : List ℕ) → Bytes bs → unhexed (hexed bs) ≡ bs
unfolding unhexed hexed
unhexed-hexed [] h = refl
unhexed-hexed (b ∷ bs) h =
    let l : b < 256 = h 0 in
    let e : b / 16 * 16 + b % 16 ≡ b = omega arith in
    rw (worth-digit (b / 16) (omega arith), worth-digit (b % 16) (omega arith), e, unhexed-hexed bs (λ i. h (suc i)))

-- ---- lines

-- every character is '0' or above: neither CR nor LF
abbrev High : List ℕ → Type 0
High [] = Unit {0}
High (c ∷ l) = (48 ≤ c) × High l

digit-high : (d : ℕ) → 48 ≤ digit d
unfolding digit
digit-high d = go (ltb d 10)
  where
    go : (b : Bool) → 48 ≤ cond b (48 + d) (55 + d)
    go true = omega arith
    go false = omega arith

hexed-high : (bs : List ℕ) → High (hexed bs)
unfolding hexed
hexed-high [] = tt
hexed-high (b ∷ bs) = (digit-high (b / 16), (digit-high (b % 16), hexed-high bs))

high_no_lf : (l : List ℕ) → High l → NoLf l
high_no_lf [] h k p e = omega arith
high_no_lf (c ∷ l) h zero p e = omega (arith, h.0)
high_no_lf (c ∷ l) h (suc k) p e = high_no_lf l h.1 k (omega arith) e

bare_high : (l : List ℕ) → High l → bare l ≡ l
unfolding bare
bare_high [] h = refl
bare_high (c ∷ []) h = let k : 48 ≤ c = h.0 in rw (ne_eqb c 13 (λ e. omega arith))
bare_high (c ∷ d ∷ l) h = ap (λ (r : List ℕ). c ∷ r) (bare_high (d ∷ l) h.1)

-- ---- a record

sum_sealed : (bs : List ℕ) → total (sealed bs) % 256 ≡ 255
unfolding sealed total
sum_sealed bs = rw (total_append bs ((255 - total bs % 256) ∷ [])) (omega arith)

bytes-sealed : (bs : List ℕ) → Bytes bs → Bytes (sealed bs)
unfolding sealed
bytes-sealed bs h = bytes_append bs _ h (bytes_cons _ [] (omega arith) bytes_nil)

-- a record's bytes before its checksum, and its line without the LF
abbrev pub fields : ℕ → List ℕ → List ℕ
fields a bs = (length bs + 5) ∷ (four a ++ bs)

unfoldable pub body : ℕ → ℕ → List ℕ → List ℕ
body d a bs = letter_s ∷ d ∷ hexed (sealed (fields a bs))

bytes-fields : (a : ℕ) (bs : List ℕ) → length bs ≤ 16 → Bytes bs → Bytes (fields a bs)
bytes-fields a bs s h =
    bytes_cons (length bs + 5) (four a ++ bs) (omega arith)
    (bytes_cons (a / 2 ^ 24 % 256) (a / 2 ^ 16 % 256 ∷ a / 2 ^ 8 % 256 ∷ a % 256 ∷ bs) (low (a / 2 ^ 24))
    (bytes_cons (a / 2 ^ 16 % 256) (a / 2 ^ 8 % 256 ∷ a % 256 ∷ bs) (low (a / 2 ^ 16))
    (bytes_cons (a / 2 ^ 8 % 256) (a % 256 ∷ bs) (low (a / 2 ^ 8)) (bytes_cons (a % 256) bs (low a) h))))
  where
    low : (v : ℕ) → v % 256 < 256
    low v = omega arith

body-high : (d a : ℕ) (bs : List ℕ) → 48 ≤ d → High (body d a bs)
unfolding body
body-high d a bs h = (omega arith, (h, hexed-high (sealed (fields a bs))))

pub lines-line_of : (d a : ℕ) (bs t : List ℕ) → 48 ≤ d → lines (line_of d a bs ++ t) ≡ body d a bs ∷ lines t
unfolding line_of body
lines-line_of d a bs t h =
    let l : List ℕ = letter_s ∷ d ∷ hexed (sealed (fields a bs)) in
    rw append_assoc (lines-line l t (high_no_lf l (body-high d a bs h)))

pub ended-line_of : (d a : ℕ) (bs t : List ℕ) → ended (line_of d a bs ++ t) ≡ ended t
unfolding line_of
ended-line_of d a bs t = rw append_assoc (ended-line (letter_s ∷ d ∷ hexed (sealed (fields a bs))) t)

four-number : (a : ℕ) → a < 2 ^ 32
    → (((0 * 256 + a / 2 ^ 24 % 256) * 256 + a / 2 ^ 16 % 256) * 256 + a / 2 ^ 8 % 256) * 256 + a % 256 ≡ a
four-number a h =
    let e : a / 2 ^ 16 ≡ a / 256 / 256 = sym (div-div-eq-div-mul a 256 256) in
    let f : a / 2 ^ 24 ≡ a / 256 / 256 / 256 = sym (div-div-eq-div-mul (a / 256) 256 256 ∙ div-div-eq-div-mul a 256 (256 * 256)) in
    let top : 0 * 256 + a / 256 / 256 / 256 % 256 ≡ a / 256 / 256 / 256 = omega arith in
    rw (e, f, top, back (a / 256 / 256), back (a / 256), back a)
  where
    back : (v : ℕ) → v / 256 * 256 + v % 256 ≡ v
    back v = omega arith

count-sealed : (a : ℕ) (bs : List ℕ) → length (sealed (fields a bs)) ≡ get_or (sealed (fields a bs)) 0 0 + 1
unfolding sealed
count-sealed a bs = rw (length-append bs _) (omega arith)

checked-sealed : (a : ℕ) (bs : List ℕ) (s : Said) → checked true (sealed (fields a bs)) s ≡ s
unfolding checked
checked-sealed a bs s =
    rw (eq-eqb _ _ (count-sealed a bs), eq-eqb _ _ (sum_sealed (fields a bs)))

body_means : (d a : ℕ) (bs : List ℕ) → 48 ≤ d → length bs ≤ 16 → Bytes bs → said (bare (body d a bs)) ≡ meaning (kind_of d) (sealed (fields a bs))
unfolding said body
body_means d a bs o s h =
    rw (bare_high (body d a bs) (body-high d a bs o)) (inner (sealed (fields a bs)) (bytes-sealed (fields a bs) (bytes-fields a bs s h)))
  where
    inner : (xs : List ℕ) → Bytes xs → said (letter_s ∷ d ∷ hexed xs) ≡ meaning (kind_of d) xs
    inner xs k = rw (is_hex-hexed xs k, unhexed-hexed xs k)

length_six : (a : ℕ) (bs : List ℕ) → length (sealed (fields a bs)) ≡ length bs + 6
unfolding sealed
length_six a bs = rw (length-append bs _) (omega arith)

data_sealed : (a : ℕ) (bs : List ℕ) → take (length (sealed (fields a bs)) - 6) (drop 5 (sealed (fields a bs))) ≡ bs
unfolding sealed
data_sealed a bs =
    let c : List ℕ = (255 - total (fields a bs) % 256) ∷ [] in
    take_at bs c (length (fields a (bs ++ c)) - 6) (rw (length-append bs c) (omega arith))

address-sealed : (a : ℕ) (bs : List ℕ) → a < 2 ^ 32 → value_at (sealed (fields a bs)) 1 4 ≡ a
unfolding sealed value_at
address-sealed a bs h = four-number a h

pub said_data : (a : ℕ) (bs : List ℕ) → a < 2 ^ 32 → length bs ≤ 16 → Bytes bs → said (bare (body 51 a bs)) ≡ Data a bs
unfolding meaning kind_of
said_data a bs l s h =
    body_means 51 a bs (omega arith) s h
    ∙ rw (le-leb 6 (length (sealed (fields a bs))) (rw (length_six a bs) (omega arith)), checked-sealed a bs _, address-sealed a bs l, data_sealed a bs)

pub said-end : (a : ℕ) → a < 2 ^ 32 → said (bare (body 55 a [])) ≡ End a
unfolding meaning kind_of
said-end a l =
    body_means 55 a [] (omega arith) (omega arith) bytes_nil
    ∙ rw (eq-eqb (length (sealed (fields a []))) 6 (length_six a []), checked-sealed a [] _, address-sealed a [] l)
