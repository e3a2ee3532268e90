-- The second byte of a list, and what is after it. Assumes nothing.
use Rattle.std.proofs.Common.{◌≡◌, ℕ, List, [], ◌∷◌, get_or, drop, refl}

pub second : (f : List ℕ) → get_or (drop 1 f) 0 0 ≡ get_or f 1 0
second [] = refl
second (a ∷ f) = refl

pub after-second : (f : List ℕ) → drop 1 (drop 1 f) ≡ drop 2 f
after-second [] = refl
after-second (a ∷ f) = refl
