-- Pairs of hex digits, and the bytes that they are. Assumes nothing.
use Rattle.std.proofs.Common.{◌≡◌, ℕ, zero, suc, ◌+◌, ◌-◌, ◌*◌, ◌/◌, ◌%◌, ◌≤◌, ◌<◌, Bool, true, false, cond, ◌&&◌, List, [], ◌∷◌, length, get_or, take, drop, set, refl, sym, ◌∙◌, append_assoc, arith, ltb, ltb-true, leb, Some, None}
use Rattle.std.proofs.lemmas.Bool.Decides.{nat_tests}
use Rattle.std.proofs.lemmas.List.{take_all, length-map, get_or-map, take-map, drop-map, map_more}
use Rattle.std.proofs.lemmas.List.Edits.{sets, sets-eq, paste_none, paste_more, paste_all}
use Rattle.std.proofs.lemmas.List.Folds.{list_all_more}
use lib.Seq.{paste}
use Rattle.std.specs.List.{list_all}
use Rattle.std.specs.Simd.{first_chunks}
use Rattle.srecord.specs.Records.{worth, is_hex, unhexed, total}
use Rattle.srecord.specs.Reading.{payload}
use Rattle.srecord_line.specs.Lines.{fits_by}
use Rattle.srecord_line.specs.Pairs.{is_pair, pair_value, values, scanned}
use Rattle.srecord_line.specs.RangeLaws.{total_append}

pub one_range : (c : ℕ) → cond (leb 48 c && leb c 57) 1 0 + cond (leb 65 c && leb c 70) 1 0 + cond (leb 97 c && leb c 102) 1 0 ≡ cond (ltb (worth c) 16) 1 0
unfolding worth
one_range c = grind (arith, nat_tests)

pub digit_worth : (c : ℕ) → worth c < 16 → c % 16 + 9 * (c / 64) ≡ worth c
unfolding worth
digit_worth c h = grind (arith, nat_tests)

both : (a b : Bool) → (a && b) ≡ true → (a ≡ true) × (b ≡ true)
both a b h = grind (arith, nat_tests)

-- ---- digits and their pairs

hex_pairs : (k : ℕ) (t : List ℕ) → length t ≡ 2 * k → (is_hex t ≡ list_all is_pair (first_chunks 2 k t)) × (unhexed t ≡ values (first_chunks 2 k t))
unfolding is_hex unhexed
hex_pairs zero [] h = (refl, refl)
hex_pairs zero (a ∷ t) h = absurd (omega arith)
hex_pairs (suc k) [] h = absurd (omega arith)
hex_pairs (suc k) (a ∷ []) h = absurd (omega arith)
hex_pairs (suc k) (a ∷ b ∷ t) h = let r = hex_pairs k t (omega arith) in (rw r.0, rw r.1)

hex_odd : (t : List ℕ) → length t % 2 ≡ 1 → is_hex t ≡ false
unfolding is_hex
hex_odd [] h = absurd (omega arith)
hex_odd (a ∷ []) h = refl
hex_odd (a ∷ b ∷ t) h = let r = hex_odd t (omega arith) in rw r (grind (arith, nat_tests))

-- ---- a scan: i pairs are read

both_one : (x y z : Bool) → cond x 1 0 * (cond y 1 0 * cond z 1 0) ≡ cond (x && (y && z)) 1 0
both_one true true true = refl
both_one true true false = refl
both_one true false z = omega arith
both_one false y z = omega arith

module _ (ps : List (List ℕ)) (i right sum : ℕ) (l : i < length ps) (e : right ≡ cond (list_all is_pair (take i ps)) 1 0) where
  abbrev p : List ℕ
  p = get_or ps i []

  pub scan_right : right * (cond (ltb (worth (get_or p 0 0)) 16) 1 0 * cond (ltb (worth (get_or p 1 0)) 16) 1 0) ≡ cond (list_all is_pair (take (i + 1) ps)) 1 0
  scan_right = rw (e, list_all_more is_pair ps i [] l, both_one (list_all is_pair (take i ps)) (ltb (worth (get_or p 0 0)) 16) (ltb (worth (get_or p 1 0)) 16))

  pub scan_sum : (x y : ℕ) → (worth (get_or p 0 0) < 16 → x ≡ worth (get_or p 0 0)) → (worth (get_or p 1 0) < 16 → y ≡ worth (get_or p 1 0))
      → (list_all is_pair (take i ps) ≡ true → sum ≡ total (values (take i ps)) % 256)
      → list_all is_pair (take (i + 1) ps) ≡ true → (sum + x * 16 + y) % 256 ≡ total (values (take (i + 1) ps)) % 256
  unfolding total
  scan_sum x y f g s h =
      let k = both (list_all is_pair (take i ps)) (is_pair p) (rw (list_all_more is_pair ps i [] l) at h) in
      let d = both (ltb (worth (get_or p 0 0)) 16) (ltb (worth (get_or p 1 0)) 16) k.1 in
      rw (map_more pair_value ps i [] l, total_append (values (take i ps)) (pair_value p ∷ []), f (ltb-true _ _ d.0), g (ltb-true _ _ d.1), s k.0) (omega arith)

-- ---- what a scan answers

pub unscanned_odd : (t : List ℕ) → length t % 2 ≡ 1 → None ≡ scanned t
unscanned_odd t h = rw (hex_odd t h)

module _ (t : List ℕ) (ps : List (List ℕ)) (q : ps ≡ first_chunks 2 (length t / 2) t) (h : length t % 2 ≡ 0) where
  both_pairs : (is_hex t ≡ list_all is_pair ps) × (unhexed t ≡ values ps)
  both_pairs = rw q (hex_pairs (length t / 2) t (omega arith))

  -- behind the last pair
  module _ (i right sum : ℕ) (l : length ps ≤ i) (e : right ≡ cond (list_all is_pair (take i ps)) 1 0) where
    all : right ≡ cond (list_all is_pair ps) 1 0
    all = rw (take_all i ps l) at e

    pub unscanned_wrong : right ≡ 0 → None ≡ scanned t
    unscanned_wrong z =
        let q = all in
        let f : list_all is_pair ps ≡ false = grind (arith, nat_tests) in
        rw (both_pairs.0, f)

    right_all : (right ≡ 0 → ⊥) → list_all is_pair ps ≡ true
    right_all z = let q = all in grind (arith, nat_tests)

    pub scanned_right : (right ≡ 0 → ⊥) → (list_all is_pair (take i ps) ≡ true → sum ≡ total (values (take i ps)) % 256)
        → Some (values ps, sum) ≡ scanned t
    scanned_right z s =
        let f = right_all z in
        let g = rw (take_all i ps l) at s in
        rw (both_pairs.0, f, both_pairs.1, g f)

-- ---- a part, and storing

pub payload_values : (ps : List (List ℕ)) (w v : ℕ) → v ≡ w → values (take (length ps - 1 - (v + 1)) (drop (v + 1) ps)) ≡ payload w (values ps)
payload_values ps w v e =
    let n : length ps - 1 - (w + 1) ≡ length ps - (w + 2) = omega arith in
    rw (e, length-map ps pair_value, drop-map pair_value (w + 1) ps, take-map pair_value (length ps - (w + 2)) (drop (w + 1) ps), n)

pub fits_inside : (size a n : ℕ) → fits_by size a n ≡ true → 0 < n → a + n ≤ size
fits_inside size a n h l = grind (arith, nat_tests)

pub paste_sets : (m : List ℕ) (at : ℕ) (bs : List ℕ) (n : ℕ) → n ≡ length bs → fits_by (length m) at (length bs) ≡ true → paste m at bs n ≡ sets m at bs
paste_sets m at [] n e h = sym (paste_none m at [] ∙ rw e)
paste_sets m at (b ∷ bs) n e h =
    paste_all m at (b ∷ bs) n e ∙ rw e (sym (append_assoc (take at m) (b ∷ bs) (drop (at + length (b ∷ bs)) m)))
    ∙ sym (sets-eq (b ∷ bs) m at (fits_inside (length m) at (length (b ∷ bs)) h (omega arith)))

-- one byte more: i are stored
pub store_more : (ps : List (List ℕ)) (m d : List ℕ) (at i v : ℕ) → d ≡ paste m at (values ps) i → fits_by (length m) at (length (values ps)) ≡ true → i < length ps
    → v ≡ pair_value (get_or ps i []) → set d (at + i) v ≡ paste m at (values ps) (i + 1)
store_more ps m d at i v e f l w =
    let n : length (values ps) ≡ length ps = length-map ps pair_value in
    let b = fits_inside (length m) at (length (values ps)) f (omega arith) in
    rw (e, w, ← get_or-map pair_value ps i [] 0 l) (paste_more m at (values ps) i 0 (omega arith) (omega arith))
