-- What a spot says of an operand's place, and a reading of its source. None says nothing. Assumes nothing.
use Rattle.std.specs.Prelude.{ℕ, ◌<◌, ◌^◌, ◌≡◌, refl, List, Result, Option, Ok, Some, None}
use Rattle.std.proofs.Common.{sym, ◌∙◌}
use Rattle.std.proofs.Math.Path.{ap}
use Rattle.manual.specs.declared.Fault.{Fault}
use Rattle.manual.specs.declared.Size.{Size}
use Rattle.manual.specs.declared.Size.TheVariants.{Long}
use Rattle.manual.specs.declared.Operand.{Operand}
use Rattle.manual.specs.declared.Place.{Place}
use Rattle.manual.specs.declared.Place.TheVariants.{M}
use Rattle.manual.specs.declared.Source.{Source}
use Rattle.manual.specs.declared.Write.{Write}
use Rattle.manual.specs.Word.{plus, cut}
use Rattle.manual.specs.Registers.{general, no_write}
use Rattle.manual.specs.Memory.{Memory, load}
use Rattle.manual.specs.Address.{extension, locate, moved, source, control, reached as reached_at}
use Rattle.manual.specs.Change.{done, put, store}
use Rattle.quick_parts.specs.declared.Spot.{Spot}
use Rattle.quick_parts.specs.declared.Reading.{Reading}

-- where an operand is, its extension words being at pc
pub record Located : Type 0 where
  pub place : Result Place Fault
  pub next : ℕ
  pub step : Write

abbrev pub located : List ℕ → Memory → ℕ → Operand → Size → Located
located g m pc o z = record { place = locate g m pc o z; next = plus pc (extension o z); step = moved g o z }

abbrev pub in_memory : Spot → Located
in_memory s = record { place = Ok (M s.at); next = s.next; step = s.moved }

abbrev pub spotted : Option Spot → Located → Located
spotted (Some s) l = in_memory s
spotted None l = l

abbrev pub read_as : Reading → Source
read_as r = record { got = Ok r.value; next = r.next; moved = r.moved }

-- what Dn or An reads
abbrev pub in_register : Size → List ℕ → ℕ → ℕ → Reading
in_register z g pc op = record { value = cut z (general g op); next = plus pc 0; moved = no_write }

-- the number that is loaded at a spot is what a source reads
abbrev pub Loads : Memory → Size → Spot → Source → Type 0
Loads m z s t = (v : ℕ) → v < 2 ^ 32 → load m s.at z ≡ Ok v → read_as (record { value = v; next = s.next; moved = s.moved }) ≡ t

abbrev pub Readable : List ℕ → Memory → ℕ → ℕ → Size → Option Spot → Type 0
Readable g m pc op z (Some s) = Loads m z s (source g m pc op z)
Readable g m pc op z None = Unit {0}

abbrev pub as_read : Option Reading → Source → Source
as_read (Some r) s = read_as r
as_read None s = s

-- the address of a control operand, its extension words being at pc; its register does not move
pub record Controlled : Type 0 where
  pub reached : Option (Result ℕ Fault)
  pub next : ℕ
  pub step : Write

abbrev pub controlled : List ℕ → Memory → ℕ → Operand → Controlled
controlled g m pc o = record { reached = control g m pc o; next = plus pc (extension o Long); step = no_write }

abbrev pub reached_by : Spot → Controlled
reached_by s = record { reached = Some (Ok s.at); next = s.next; step = s.moved }

abbrev pub controlled_at : Option Spot → Controlled → Controlled
controlled_at (Some s) c = reached_by s
controlled_at None c = c

pub at : (o : Option Spot) (l : Located) (s : Spot) → o ≡ Some s → spotted o l ≡ l → l ≡ in_memory s
at o l s q h = sym (rw q at h)

pub read : (o : Option Reading) (s : Source) (r : Reading) → o ≡ Some r → as_read o s ≡ s → s ≡ read_as r
read o s r q h = sym (rw q at h)

pub control-at : (o : Option Spot) (c : Controlled) (s : Spot) → o ≡ Some s → controlled_at o c ≡ c → c ≡ reached_by s
control-at o c s q h = sym (rw q at h)

-- where an operand is that has a control address and moves nothing
pub spot_controlled : (s : Option Spot) (g : List ℕ) (m : Memory) (pc : ℕ) (o : Operand) → control g m pc o ≡ reached_at (locate g m pc o Long) → moved g o Long ≡ no_write
    → spotted s (located g m pc o Long) ≡ located g m pc o Long → controlled_at s (controlled g m pc o) ≡ controlled g m pc o
spot_controlled (Some s) g m pc o q n h =
    ap (λ (l : Located). record { reached = reached_at l.place; next = l.next; step = l.step }) h ∙ rw (q, n) refl
spot_controlled None g m pc o q n h = refl

-- what is put in memory is stored: the operand's move comes second after another operand's, or first
module _ (z : Size) (g : List ℕ) (m : Memory) (pc : ℕ) (o : Operand) (codes v : ℕ) (s : Spot) (h : located g m pc o z ≡ in_memory s) where
  pub put_second : (first : Write)
      → put g z v (locate g m pc o z) (done (plus pc (extension o z)) codes first (moved g o z)) ≡ store s.next codes first s.moved s.at z v
  unfolding put done
  put_second first = ap (λ (l : Located). put g z v l.place (done l.next codes first l.step)) h

  pub put_first : put g z v (locate g m pc o z) (done (plus pc (extension o z)) codes (moved g o z) no_write) ≡ store s.next codes s.moved no_write s.at z v
  unfolding put done
  put_first = ap (λ (l : Located). put g z v l.place (done l.next codes l.step no_write)) h
