-- A line without an LF in it, the LF that ends it, and storage after it. Assumes nothing.
use Rattle.std.specs.Prelude.{ℕ, suc, ◌<◌, ◌≡◌, refl, length, get_or}
use mathlib.Core.{Bool.false, List.List, List.[], List.◌∷◌, List.◌++◌}
use Rattle.std.proofs.Common.{arith, ne_eqb}
use Rattle.srecord.specs.Records.{lf}
use Rattle.srecord.specs.Reading.{said, bare, lines, ended, on_first, stored, placed}

abbrev pub NoLf : List ℕ → Type 0
NoLf l = (k : ℕ) → k < length l → get_or l k 0 ≡ lf → ⊥

no_lf_tail : (c : ℕ) (l : List ℕ) → NoLf (c ∷ l) → NoLf l
no_lf_tail c l h k p = h (suc k) (omega arith)

no_lf_head : (c : ℕ) (l : List ℕ) → NoLf (c ∷ l) → c ≡ lf → ⊥
no_lf_head c l h = h 0 (omega arith)

pub lines-line : (l t : List ℕ) → NoLf l → lines (l ++ (lf ∷ t)) ≡ l ∷ lines t
unfolding lines on_first
lines-line [] t h = refl
lines-line (c ∷ l) t h = rw (ne_eqb c lf (no_lf_head c l h), lines-line l t (no_lf_tail c l h))

pub ended-line : (l t : List ℕ) → ended (l ++ (lf ∷ t)) ≡ ended t
unfolding ended
ended-line [] [] = refl
ended-line [] (c ∷ t) = refl
ended-line (b ∷ []) t = ended-line [] t
ended-line (b ∷ c ∷ l) t = ended-line (c ∷ l) t

pub lines_none : (l : List ℕ) → NoLf l → lines l ≡ []
unfolding lines on_first
lines_none [] h = refl
lines_none (c ∷ l) h = rw (ne_eqb c lf (no_lf_head c l h), lines_none l (no_lf_tail c l h))

pub ended-none : (c : ℕ) (l : List ℕ) → NoLf (c ∷ l) → ended (c ∷ l) ≡ false
unfolding ended
ended-none c [] h = ne_eqb c lf (no_lf_head c [] h)
ended-none c (d ∷ l) h = ended-none d l (no_lf_tail c (d ∷ l) h)

pub placed_cons : (l : List ℕ) (ls : List (List ℕ)) (m : List ℕ) → placed (l ∷ ls) m ≡ placed ls (stored (said (bare l)) m)
unfolding placed
placed_cons l ls m = refl
