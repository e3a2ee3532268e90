-- MAC with a load, by the place of its operand. Assumes nothing.
use Rattle.std.specs.Prelude.{Option, Some, Result, Ok, Err}
use Rattle.std.specs.Result.{result_ok}
use Rattle.manual.specs.declared.Fault.{Fault}
use Prim.Native.Nat.{ℕ}
use native.Mathlib.Omega.{arith}
use mathlib.Core.Path.{◌≡◌}
use mathlib.Core.List.{List}
use Rattle.manual.specs.declared.Size.TheVariants.{Long}
use Rattle.manual.specs.declared.Write.{Write}
use Rattle.manual.specs.Registers.{coded}
use Rattle.manual.specs.Flags.{kept_codes}
use Rattle.manual.specs.Memory.{Memory, load}
use Rattle.manual.specs.Change.{reading}
use Rattle.instructions.specs.LineA.{load_moves, load_address, mac_load, mac_with_load}
use Rattle.quick_parts.specs.declared.Spot.{Spot}
use Rattle.quick_bodies.specs.Units.{loading, from_spot}

-- MAC keeps the condition codes
pub kept-status : (sr : ℕ) → coded sr (kept_codes sr) ≡ sr
unfolding coded kept_codes
kept-status sr = omega arith

-- a long at the definition's address, with its move
pub spotted : (g : List ℕ) (sr macsr mask : ℕ) (m : Memory) (op w a base next : ℕ) (step : Write) → a ≡ load_address mask w base → step ≡ load_moves op a
    → reading (load m a Long) (λ v. loading g sr macsr op w v next step) ≡ mac_load g next sr macsr mask m op w base
unfolding mac_load
spotted g sr macsr mask m op w a base next step p q = rw (q, p)

-- the number that `ok` hands on
pub was_ok : (got : Result ℕ Fault) (v : ℕ) → ◌≡◌ {A = Option ℕ} (Some v) (result_ok got) → got ≡ Ok v
was_ok (Ok x) v h = let e : v ≡ x = cc in rw e
was_ok (Err x) v h = absurd (cc)

-- what is loaded from a spot
pub loaded : (g : List ℕ) (pc sr macsr mask : ℕ) (m : Memory) (op w v : ℕ) (o : Option Spot) (s : Spot) (got : Result ℕ Fault) → o ≡ Some s → got ≡ load m s.at Long
    → ◌≡◌ {A = Option ℕ} (Some v) (result_ok got)
    → from_spot o g sr macsr m op w (mac_with_load g pc sr macsr mask m op w) ≡ mac_with_load g pc sr macsr mask m op w
    → loading g sr macsr op w v s.next s.moved ≡ mac_with_load g pc sr macsr mask m op w
loaded g pc sr macsr mask m op w v o s got p q k h = rw (p, ← q, was_ok got v k) at h
