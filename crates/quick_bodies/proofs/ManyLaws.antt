-- MOVEM in place, by the place of its registers. Assumes nothing.
use Rattle.std.specs.Prelude.{ℕ, ◌≡◌, List, true, false, Option, Some, Result, Ok, Err}
use Rattle.std.specs.Result.{result_ok}
use Rattle.manual.specs.declared.Fault.{Fault}
use Rattle.manual.specs.declared.Change.{Change}
use Rattle.manual.specs.Registers.{no_write, written}
use Rattle.manual.specs.Memory.{Memory, storage_of, if_taken, access_many, stored_many, loaded_many}
use Rattle.manual.specs.Change.{acting}
use Rattle.instructions.specs.Line4.{many}
use Rattle.quick_parts.specs.Effects.{after, in_place}
use Rattle.quick_bodies.proofs.LoadLaws.{kept-status}

module _ (g : List ℕ) (sr next mask a : ℕ) (m : Memory) (c : Change) where
  pub many_stored : (r : Result Unit Fault) (u : Unit) → acting sr next no_write (many true mask a) ≡ c → r ≡ access_many 16 m mask a → ◌≡◌ {A = Option Unit} (Some u) (result_ok r)
      → after (Some next) sr g (if_taken r (stored_many 16 g 0 mask a m) (storage_of m)) ≡ in_place c sr g m
  unfolding in_place acting many written no_write
  many_stored (Ok tt) u q is ok = rw (← q, kept-status sr, ← is)
  many_stored (Err x) u q is ok = absurd (cc)

  pub many_loaded : (r : Result Unit Fault) (u : Unit) → acting sr next no_write (many false mask a) ≡ c → r ≡ access_many 16 m mask a → ◌≡◌ {A = Option Unit} (Some u) (result_ok r)
      → after (Some next) sr (if_taken r (loaded_many 16 m 0 mask a g) g) (storage_of m) ≡ in_place c sr g m
  unfolding in_place acting many written no_write
  many_loaded (Ok tt) u q is ok = rw (← q, kept-status sr, ← is)
  many_loaded (Err x) u q is ok = absurd (cc)
