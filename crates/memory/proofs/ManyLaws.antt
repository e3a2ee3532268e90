-- One register of a mask, in a loop's terms: registers n to 15 are to come.
-- Assumes nothing.
use Rattle.manual.specs.declared.Fault.{Fault}
use Rattle.std.proofs.Common.{◌≡◌, ℕ, suc, ◌+◌, ◌-◌, ◌/◌, ◌%◌, ◌<◌, ◌≤◌, List, get_or, set, arith, eq-eqb, ne_eqb, Result, Ok, Err, refl}
use Rattle.manual.specs.declared.Size.TheVariants.{Long}
use Rattle.std.specs.Result.{result_unwrap_or}
use Rattle.manual.specs.Word.{plus}
use Rattle.manual.specs.Registers.{general}
use Rattle.manual.specs.Memory.{Memory, access, number_in, number_at, stored, access_many, stored_many, loaded_many}

pub general-below : (g : List ℕ) (n : ℕ) → n < 16 → general g n ≡ get_or g n 0
unfolding general
general-below g n h = let e : n % 16 ≡ n = omega arith in rw e

-- the number that was read, or 0
pub or_zero : (x : Result ℕ Fault) → result_unwrap_or x 0 ≡ number_in x
or_zero (Ok v) = refl
or_zero (Err x) = refl

to_come : (n : ℕ) → n < 16 → 16 - n ≡ suc (16 - (n + 1))
to_come n h = omega arith

module _ (n : ℕ) (h : n < 16) (m : Memory) (mask at : ℕ) where
  pub access-on : (x : Result ℕ Fault) (p at' : ℕ) (w : Result Unit Fault) → mask % 2 ≡ 1 → x ≡ access m at 4 → x ≡ Ok p → at' ≡ plus at 4
      → access_many (16 - n) m mask at ≡ w → access_many (16 - (n + 1)) m (mask / 2) at' ≡ w
  unfolding access_many
  access-on x p at' w t is i a e = rw a (rw (to_come n h, eq-eqb _ _ t, ← is, i) at e)

  pub access-not : (x : Result ℕ Fault) (f : Fault) (w : Result Unit Fault) → mask % 2 ≡ 1 → x ≡ access m at 4 → x ≡ Err f → access_many (16 - n) m mask at ≡ w → Err f ≡ w
  unfolding access_many
  access-not x f w t is i e = rw (to_come n h, eq-eqb _ _ t, ← is, i) at e

  pub access-past : (w : Result Unit Fault) → (mask % 2 ≡ 1 → ⊥) → access_many (16 - n) m mask at ≡ w → access_many (16 - (n + 1)) m (mask / 2) at ≡ w
  unfolding access_many
  access-past w t e = rw (to_come n h, ne_eqb _ _ t) at e

  pub stored_on : (g m' w : List ℕ) (at' : ℕ) → mask % 2 ≡ 1 → at' ≡ plus at 4 → m' ≡ stored m at Long (get_or g n 0)
      → stored_many (16 - n) g n mask at m ≡ w → stored_many (16 - (n + 1)) g (n + 1) (mask / 2) at' m' ≡ w
  unfolding stored_many
  stored_on g m' w at' t a s e = rw (a, s, ← general-below g n h) (rw (to_come n h, eq-eqb _ _ t) at e)

  pub stored_past : (g : List ℕ) → (mask % 2 ≡ 1 → ⊥) → stored_many (16 - n) g n mask at m ≡ stored_many (16 - (n + 1)) g (n + 1) (mask / 2) at m
  unfolding stored_many
  stored_past g t = rw (to_come n h, ne_eqb _ _ t)

  pub loaded_on : (g w : List ℕ) (at' v : ℕ) → mask % 2 ≡ 1 → at' ≡ plus at 4 → v ≡ number_at m at Long
      → loaded_many (16 - n) m n mask at g ≡ w → loaded_many (16 - (n + 1)) m (n + 1) (mask / 2) at' (set g n v) ≡ w
  unfolding loaded_many
  loaded_on g w at' v t a s e = rw (a, s) (rw (to_come n h, eq-eqb _ _ t) at e)

  pub loaded-past : (g : List ℕ) → (mask % 2 ≡ 1 → ⊥) → loaded_many (16 - n) m n mask at g ≡ loaded_many (16 - (n + 1)) m (n + 1) (mask / 2) at g
  unfolding loaded_many
  loaded-past g t = rw (to_come n h, ne_eqb _ _ t)

-- and after the last
module _ (n : ℕ) (h : 16 ≤ n) (m : Memory) (mask at : ℕ) where
  pub access-none : access_many (16 - n) m mask at ≡ Ok tt
  unfolding access_many
  access-none = let e : 16 - n ≡ 0 = omega arith in rw e

  pub stored-none : (g : List ℕ) → stored_many (16 - n) g n mask at m ≡ m
  unfolding stored_many
  stored-none g = let e : 16 - n ≡ 0 = omega arith in rw e

  pub loaded-none : (g : List ℕ) → loaded_many (16 - n) m n mask at g ≡ g
  unfolding loaded_many
  loaded-none g = let e : 16 - n ≡ 0 = omega arith in rw e
