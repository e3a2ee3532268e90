-- Bytes that are stored one after the other, and a range byte by byte, with its length. Assumes nothing.
use Rattle.std.specs.Prelude.{ℕ, suc, ◌+◌, ◌-◌, ◌≤◌, ◌<◌, ◌≡◌, refl, List, [], ◌∷◌, ◌++◌, length, get_or, take, drop, set}
use Rattle.std.proofs.Common.{sym, ap, ◌∙◌, arith, add-zero, ne_eqb, length-append, length-drop, take-append-drop, drop-cons, length-take-le}
use Rattle.std.proofs.lemmas.List.Edits.{sets}
use Rattle.srecord.specs.Records.{total}
use Rattle.srecord.specs.Reading.{fits}
use Rattle.srecord.specs.Writing.{range}
use Rattle.srecord_line.specs.Lines.{fits_by}

pub sets_then : (xs ys l : List ℕ) (i n : ℕ) → n ≡ i + length xs → sets l i (xs ++ ys) ≡ sets (sets l i xs) n ys
sets_then [] ys l i n e = rw (e, add-zero)
sets_then (x ∷ xs) ys l i n e = sets_then xs ys (set l i x) (suc i) n (omega arith)

-- i of a range's n bytes are done
pub range-next : (m : List ℕ) (a n i : ℕ) → i < n → a + n ≤ length m
    → range m (a + i) (n - i) ≡ get_or m (a + i) 0 ∷ range m (a + (i + 1)) (n - (i + 1))
range-next m a n i h l =
    let e : n - i ≡ suc (n - (i + 1)) = omega arith in
    let f : suc (a + i) ≡ a + (i + 1) = omega arith in
    rw (e, drop-cons m (a + i) 0 (omega arith), f)

pub range_none : (m : List ℕ) (a n i : ℕ) → n ≤ i → range m a (n - i) ≡ []
range_none m a n i h = let e : n - i ≡ 0 = omega arith in rw e

pub range_length : (m : List ℕ) (a n : ℕ) → a + n ≤ length m → length (range m a n) ≡ n
range_length m a n h = length-take-le n (drop a m) (rw length-drop (omega arith))

-- the first n bytes and the rest
pub split_lengths : (n : ℕ) (bs : List ℕ) → length (take n bs) + length (drop n bs) ≡ length bs
split_lengths n bs = sym (length-append (take n bs) (drop n bs)) ∙ ap length (take-append-drop n bs)

-- bytes are inside by their count
pub fits_length : (n a : ℕ) (bs : List ℕ) → fits n a bs ≡ fits_by n a (length bs)
unfolding fits
fits_length n a [] = refl
fits_length n a (b ∷ bs) = rw (ne_eqb (suc (length bs)) 0 (λ e. omega arith))

pub total_append : (xs ys : List ℕ) → total (xs ++ ys) ≡ total xs + total ys
unfolding total
total_append [] ys = omega arith
total_append (x ∷ xs) ys = rw (total_append xs ys) (omega arith)
