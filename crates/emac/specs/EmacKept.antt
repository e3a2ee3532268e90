-- An admitted unit stays admitted, whatever is done to it. Assumes nothing.
use Rattle.std.specs.Prelude.{◌≡◌, ℕ, zero, suc, ◌+◌, ◌/◌, ◌%◌, ◌^◌, ◌<◌, Bool, true, false, cond, not, ◌&&◌, ◌||◌, ltb, List, [], ◌∷◌, map, ℤ, pos, negsuc, nat_lt, slice_index, slice_set}
use Rattle.std.proofs.Common.{mod-lt, arith, ltb-true, lt-ltb}
use Rattle.manual.specs.declared.Mode.{Mode}
use Rattle.manual.specs.declared.Emac.{Emac}
use Rattle.manual.specs.Word.{mod_z}
use Rattle.manual.specs.Emac.{fractional, mode_of, pav, acc_of, with_acc, acc_part, ext_part, pattern_of, reinterpreted, in_range, limit, stays_at_limit, with_sum, accumulate, set_macsr, loaded_as, set_acc, copy_acc, clear_acc, with_ext, set_ext, set_mask}
use Rattle.manual.specs.Admitted.{pattern, emac_admitted}
use Rattle.emac.specs.BoolLaws.{and_left, and_right}
use Rattle.emac.specs.FlagLaws.{Numbered, first, second, third, fourth, numbered, pav-below, with_flags-below}

-- ---- what an admitted unit is: MACSR has twelve bits, and each accumulator is a pattern of 48

pub record Admits (e : Emac) : Type 0 where
  pub macsr : e.macsr < 0x1000
  pub acc : (i : ℕ) → acc_of e i < 2 ^ 48

same-acc : (e : Emac) (i j : ℕ) → i % 4 ≡ j → j < 4 → acc_of e i ≡ acc_of e j
unfolding acc_of
same-acc e i j h l = let f : j % 4 ≡ j = omega arith in rw (h, f)

module _ (e : Emac) (h : emac_admitted e ≡ true) where
  first_of : ltb e.macsr 0x1000 ≡ true
  unfolding emac_admitted
  first_of = and_left (nat_lt e.macsr 0x1000) _ h

  all_of : (pattern (acc_of e 0) && (pattern (acc_of e 1) && (pattern (acc_of e 2) && pattern (acc_of e 3)))) ≡ true
  unfolding emac_admitted
  all_of = and_right (nat_lt e.macsr 0x1000) _ h

  from_first : (pattern (acc_of e 1) && (pattern (acc_of e 2) && pattern (acc_of e 3))) ≡ true
  from_first = and_right (pattern (acc_of e 0)) _ all_of

  from_second : (pattern (acc_of e 2) && pattern (acc_of e 3)) ≡ true
  from_second = and_right (pattern (acc_of e 1)) _ from_first

  each : (i : ℕ) → Numbered i → acc_of e i < 2 ^ 48
  each i (first q) = rw (same-acc e i 0 q (omega arith)) (ltb-true _ _ (and_left (pattern (acc_of e 0)) _ all_of))
  each i (second q) = rw (same-acc e i 1 q (omega arith)) (ltb-true _ _ (and_left (pattern (acc_of e 1)) _ from_first))
  each i (third q) = rw (same-acc e i 2 q (omega arith)) (ltb-true _ _ (and_left (pattern (acc_of e 2)) _ from_second))
  each i (fourth q) = rw (same-acc e i 3 q (omega arith)) (ltb-true _ _ (and_right (pattern (acc_of e 2)) _ from_second))

  pub macsr-small : e.macsr < 0x1000
  macsr-small = ltb-true _ _ first_of

  pub acc-small : (i : ℕ) → acc_of e i < 2 ^ 48
  acc-small i = each i (numbered i)

  pub admits : Admits e
  admits = record { macsr = macsr-small; acc = acc-small }

pub admitted : (e : Emac) → Admits e → emac_admitted e ≡ true
unfolding emac_admitted
admitted e h =
    rw (
      lt-ltb e.macsr 0x1000 h.macsr,
      lt-ltb (acc_of e 0) (2 ^ 48) (h.acc 0),
      lt-ltb (acc_of e 1) (2 ^ 48) (h.acc 1),
      lt-ltb (acc_of e 2) (2 ^ 48) (h.acc 2),
      lt-ltb (acc_of e 3) (2 ^ 48) (h.acc 3),
    )

-- ---- patterns and parts

pub mod_z-below : (z : ℤ) (m : ℕ) → 0 < m → mod_z z m < m
mod_z-below (pos n) m h = mod-lt n h
mod_z-below (negsuc n) m h = omega arith

pub acc_below : (fi : Bool) (a : ℕ) → acc_part fi a < 2 ^ 32
acc_below true a = omega arith
acc_below false a = omega arith

pub ext_below : (fi : Bool) (a : ℕ) → ext_part fi a < 2 ^ 16
ext_below true a = omega arith
ext_below false a = omega arith

pub pattern-below : (fi : Bool) (acc ext : ℕ) → acc < 2 ^ 32 → ext < 2 ^ 16 → pattern_of fi acc ext < 2 ^ 48
pattern-below true acc ext h k = omega arith
pattern-below false acc ext h k = omega arith

pub reinterpreted-below : (old new : Bool) (a : ℕ) → reinterpreted old new a < 2 ^ 48
reinterpreted-below old new a = pattern-below new (acc_part old a) (ext_part old a) (acc_below old a) (ext_below old a)

-- ---- lists

set_below : (l : List ℕ) (i v b k : ℕ) → slice_index l k < b → v < b → slice_index (slice_set l i v) k < b
set_below [] i v b k h hv = h
set_below (x ∷ xs) zero v b zero h hv = hv
set_below (x ∷ xs) zero v b (suc k) h hv = h
set_below (x ∷ xs) (suc i) v b zero h hv = h
set_below (x ∷ xs) (suc i) v b (suc k) h hv = set_below xs i v b k h hv

map_below : (f : ℕ → ℕ) (b : ℕ) → ((a : ℕ) → f a < b) → (l : List ℕ) (k : ℕ) → slice_index l k < b → slice_index (map f l) k < b
map_below f b g [] k h = h
map_below f b g (x ∷ xs) zero h = g x
map_below f b g (x ∷ xs) (suc k) h = map_below f b g xs k h

-- ---- a unit with an accumulator replaced

with_acc_lem : (e : Emac) (i m a : ℕ) → Admits e → m < 0x1000 → a < 2 ^ 48 → Admits (with_acc i m a e)
unfolding acc_of with_acc
with_acc_lem e i m a h l g = record { macsr = l; acc = λ k. set_below e.acc (i % 4) a (2 ^ 48) (k % 4) (h.acc k) g }

with_ext_lem : (fi : Bool) (e : Emac) (i ext : ℕ) → Admits e → ext < 2 ^ 16 → Admits (with_ext fi i ext e)
unfolding with_ext
with_ext_lem fi e i ext h l =
    with_acc_lem e i e.macsr (pattern_of fi (acc_part fi (acc_of e i)) ext) h h.macsr
    (pattern-below fi (acc_part fi (acc_of e i)) ext (acc_below fi (acc_of e i)) l)

either_way : (b : Bool) (e f : Emac) → Admits e → Admits f → Admits (cond b e f)
either_way true e f h g = h
either_way false e f h g = g

with_sum_lem : (k : Mode) (e : Emac) (i : ℕ) (over below : Bool) (z : ℤ) → Admits e → Admits (with_sum k e i over below z)
unfolding with_sum
with_sum_lem k e i over below z h =
    with_acc_lem e i _ _ h (with_flags-below k e.macsr i _ _ 12 (omega arith) h.macsr)
    (mod_z-below (cond ((over || not (in_range k z)) && k.omc) (limit k below) z) (2 ^ 48) (omega arith))

sets-macsr : (e : Emac) (v : ℕ) → Admits e → Admits (set_macsr e v)
unfolding set_macsr acc_of
sets-macsr e v h =
    let old = fractional e.macsr in
    let new = fractional (v % 0x1000) in
    record {
      macsr = omega arith;
      acc = λ k. map_below (reinterpreted old new) (2 ^ 48) (reinterpreted-below old new) e.acc (k % 4) (h.acc k);
    }

sets-mask : (e : Emac) (v : ℕ) → Admits e → Admits (set_mask e v)
unfolding set_mask acc_of
sets-mask e v h = record { macsr = h.macsr; acc = h.acc }

-- ---- what each call keeps

module _ (e : Emac) (h : emac_admitted e ≡ true) where
  pub with_acc-kept : (i m a : ℕ) → m < 0x1000 → a < 2 ^ 48 → emac_admitted (with_acc i m a e) ≡ true
  with_acc-kept i m a l g = admitted _ (with_acc_lem e i m a (admits e h) l g)

  pub accumulate-kept : (i s : ℕ) (sub : Bool) (x y : ℕ) → emac_admitted (accumulate e i s sub x y) ≡ true
  unfolding accumulate
  accumulate-kept i s sub x y =
      admitted _ (either_way (stays_at_limit e.macsr i) e _ (admits e h) (with_sum_lem (mode_of e.macsr) e i _ _ _ (admits e h)))

  pub set_macsr-kept : (v : ℕ) → emac_admitted (set_macsr e v) ≡ true
  set_macsr-kept v = admitted _ (sets-macsr e v (admits e h))

  pub set_acc-kept : (i v : ℕ) → emac_admitted (set_acc e i v) ≡ true
  unfolding set_acc
  set_acc-kept i v =
      let k = mode_of e.macsr in
      admitted _
      (with_acc_lem e i _ _ (admits e h) (with_flags-below k e.macsr i false _ 12 (omega arith) (macsr-small e h)) (mod_z-below (loaded_as k v) (2 ^ 48) (omega arith)))

  pub copy_acc-kept : (from to : ℕ) → emac_admitted (copy_acc e from to) ≡ true
  unfolding copy_acc
  copy_acc-kept from to =
      admitted _
      (with_acc_lem e to _ _ (admits e h) (with_flags-below (mode_of e.macsr) e.macsr to (pav e.macsr from) _ 12 (omega arith) (macsr-small e h)) (acc-small e h from))

  pub clear_acc-kept : (i : ℕ) → emac_admitted (clear_acc e i) ≡ true
  unfolding clear_acc
  clear_acc-kept i = admitted _ (with_acc_lem e i _ 0 (admits e h) (pav-below e.macsr false 12 i (omega arith) (macsr-small e h)) (omega arith))

  pub set_ext-kept : (i v : ℕ) → emac_admitted (set_ext e i v) ≡ true
  unfolding set_ext
  set_ext-kept i v =
      let fi = fractional e.macsr in
      admitted _ (with_ext_lem fi _ (i + 1) (v % 2 ^ 16) (with_ext_lem fi e i (v / 2 ^ 16 % 2 ^ 16) (admits e h) (omega arith)) (omega arith))

  pub set_mask-kept : (v : ℕ) → emac_admitted (set_mask e v) ≡ true
  set_mask-kept v = admitted _ (sets-mask e v (admits e h))
