-- A word that is tried in place by one way and, where it is left with nothing changed, by another. Assumes nothing.
use Rattle.std.specs.Prelude.{ℕ, ◌≡◌, List, Option, Some, None}
use Rattle.std.proofs.Math.Path.{ap}
use Rattle.manual.specs.declared.Cpu.{Cpu}
use Rattle.manual.specs.declared.Emac.{Emac}
use Rattle.manual.specs.declared.Change.{Change}
use Rattle.manual.specs.Registers.{with_parts}
use Rattle.manual.specs.Memory.{Storage, Memory, mapped}
use Rattle.manual.specs.Emac.{emac_of}
use Rattle.manual.specs.Reply.{Outcome, completed}
use Rattle.instructions.specs.Perform.{perform}
use Rattle.instructions.specs.Step.{of_row}
use Rattle.quick_parts.specs.Effects.{after as effected, agreed}
use Rattle.quick_parts.specs.PlaceLaws as place
use Rattle.quick_bodies.specs.Units.{AfterMac, after_mac, agreed_mac}
use Rattle.quick_bodies.specs.UnitLaws.{summed-performed}
use Rattle.machine.specs.Turn.{turned, agreed_turn}

-- change says what the word changes, of registers and memory: g and m before, g' and m' between, g'' and m'' at the end
module _ (change : List ℕ → ℕ → Memory → Change) (g g' g'' : List ℕ) (sr sr' sr'' : ℕ) (m m' m'' : Storage) where
  pub tried-again : (first second : Option ℕ) (c : Change) → first ≡ None → effected first sr' g' m' ≡ agreed first (change g sr (mapped m)) sr g (mapped m)
      → c ≡ change g' sr' (mapped m') → effected second sr'' g'' m'' ≡ agreed second c sr' g' (mapped m')
      → effected second sr'' g'' m'' ≡ agreed second (change g sr (mapped m)) sr g (mapped m)
  tried-again first second c q h is k =
      let p : effected None sr' g' m' ≡ effected None sr g m = rw q at h in
      rw (is, place.left-registers sr g m sr' g' m' p, place.left-status sr g m sr' g' m' p, place.left-memory sr g m sr' g' m' p) at k

module _ (row pc other op : ℕ) (rest : Cpu) where
  -- the state in its parts
  abbrev state : List ℕ → ℕ → Emac → Cpu
  state g sr e = with_parts g pc sr e rest

  abbrev change : List ℕ → ℕ → Emac → Storage → Change
  change g sr e b = of_row row g pc sr other e (mapped b) op

  -- what is said of an answer: the parts before it, and after it
  abbrev pub Turn : Option ℕ → List ℕ → ℕ → Emac → Storage → List ℕ → ℕ → Emac → Storage → Type 0
  Turn r g sr e b g' sr' e' b' =
      turned r pc g' sr' e' rest b' ≡ agreed_turn r (perform (state g sr e) (change g sr e b) (mapped b)) (completed (state g sr e) 0 b)

  module _ (g : List ℕ) (sr : ℕ) (e : Emac) (b : Storage) (g' : List ℕ) (sr' : ℕ) (b' : Storage) where
    pub in_place : (r : Option ℕ) → effected r sr' g' b' ≡ agreed r (change g sr e b) sr g (mapped b) → Turn r g sr e b g' sr' e b'
    in_place (Some next) h = place.performed g pc sr e rest (mapped b) (change g sr e b) next sr' g' b' h
    in_place None h = rw (place.left-registers sr g b sr' g' b' h, place.left-status sr g b sr' g' b' h, place.left-memory sr g b sr' g' b' h)

  module _ (g : List ℕ) (sr macsr mask : ℕ) (acc : List ℕ) (b : Storage) (g' : List ℕ) (macsr' : ℕ) (acc' : List ℕ) where
    abbrev e : Emac
    e = emac_of macsr mask acc

    abbrev e' : Emac
    e' = emac_of macsr' mask acc'

    pub in_unit : (r : Option ℕ) → after_mac r sr macsr' mask acc' g' ≡ agreed_mac r (change g sr e b) sr e g → Turn r g sr e b g' sr e' b
    in_unit (Some next) h = summed-performed g pc sr e rest (mapped b) (change g sr e b) next e' g' h
    in_unit None h =
        let p : g' ≡ g = ap (λ (a : AfterMac). a.registers) h in
        let q : e' ≡ e = ap (λ (a : AfterMac). a.unit) h in
        rw (p, q)

  module _ (g : List ℕ) (sr : ℕ) (e : Emac) (b : Storage) (g' : List ℕ) (sr' : ℕ) (e' : Emac) (b' : Storage) (h : Turn None g sr e b g' sr' e' b') where
    pub kept-registers : g' ≡ g
    unfolding with_parts
    kept-registers = ap (λ (o : Outcome). o.stepped.cpu.r) h

    pub kept-status : sr' ≡ sr
    unfolding with_parts
    kept-status = ap (λ (o : Outcome). o.stepped.cpu.sr) h

    pub kept-unit : e' ≡ e
    unfolding with_parts
    kept-unit = ap (λ (o : Outcome). o.stepped.cpu.emac) h

    pub kept-storage : b' ≡ b
    kept-storage = ap (λ (o : Outcome). o.storage) h

    pub again : (r : Option ℕ) (g'' : List ℕ) (sr'' : ℕ) (e'' : Emac) (b'' : Storage) → Turn r g' sr' e' b' g'' sr'' e'' b'' → Turn r g sr e b g'' sr'' e'' b''
    again r g'' sr'' e'' b'' k = rw (kept-registers, kept-status, kept-unit, kept-storage) at k
