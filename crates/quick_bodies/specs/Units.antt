-- A change that accumulates, done in place: its registers and its sum. Any other change is left undone.
use Rattle.std.specs.Prelude.{ℕ, ◌+◌, ◌-◌, ◌*◌, List, Option, Some, None}
use Rattle.manual.specs.declared.Size.TheVariants.{Long}
use Rattle.manual.specs.declared.Write.{Write}
use Rattle.manual.specs.declared.Emac.{Emac}
use Rattle.manual.specs.declared.Action.{Action}
use Rattle.manual.specs.declared.Action.TheVariants.{Nothing, Store, StoreMany, LoadMany, Enter, Return, Status, Stop, PushStatus, Halt, SetOther, Accumulate, SetAcc, SetExt, SetMacsr, SetMask, CopyAcc, ClearAcc, MoveControl, Refuse}
use Rattle.manual.specs.declared.Change.{Change}
use Rattle.manual.specs.Registers.{general, write_general, written, coded}
use Rattle.manual.specs.Flags.{kept_codes}
use Rattle.manual.specs.Memory.{Memory, load}
use Rattle.manual.specs.Change.{reading}
use Rattle.manual.specs.Emac.{emac_of, accumulate}
use Rattle.manual.specs.Fields.{bits, mac_register, low_four, high_four}
use Rattle.manual.specs.Bits.{bit_of}
use Rattle.instructions.specs.LineA.{operand, accumulating}
use Rattle.quick_parts.specs.declared.Spot.{Spot}
use Rattle.quick_bodies.specs.declared.mac.Product.{Product}

-- the next address of a change that was done, or none, and what is there after it
pub record AfterMac : Type 0 where
  pub next : Option ℕ
  pub status : ℕ
  pub registers : List ℕ
  pub unit : Emac

abbrev pub summed : ℕ → ℕ → List ℕ → Emac → AfterMac
summed next sr g e = record { next = Some next; status = sr; registers = g; unit = e }

abbrev pub undone : ℕ → List ℕ → Emac → AfterMac
undone sr g e = record { next = None; status = sr; registers = g; unit = e }

-- the status register is as it was
abbrev pub after_mac : Option ℕ → ℕ → ℕ → ℕ → List ℕ → List ℕ → AfterMac
after_mac next sr macsr mask acc g = record { next = next; status = sr; registers = g; unit = emac_of macsr mask acc }

-- what an action makes of the unit, or nothing
abbrev pub acted_on : Action → (Emac → AfterMac) → AfterMac → Emac → AfterMac
acted_on Nothing f left e = left
acted_on (Store a z v) f left e = left
acted_on (StoreMany mask a) f left e = left
acted_on (LoadMany mask a) f left e = left
acted_on (Enter vector pc) f left e = left
acted_on Return f left e = left
acted_on (Status v) f left e = left
acted_on (Stop v) f left e = left
acted_on (PushStatus v) f left e = left
acted_on Halt f left e = left
acted_on (SetOther v) f left e = left
acted_on (Accumulate i scale sub x y) f left e = f (accumulate e i scale sub x y)
acted_on (SetAcc i v) f left e = left
acted_on (SetExt i v) f left e = left
acted_on (SetMacsr v) f left e = left
acted_on (SetMask v) f left e = left
acted_on (CopyAcc from to) f left e = left
acted_on (ClearAcc i) f left e = left
acted_on (MoveControl writes c n) f left e = left
acted_on (Refuse n) f left e = left

unfoldable pub in_unit : Change → ℕ → Emac → List ℕ → AfterMac
in_unit c sr e g =
    acted_on c.action
    (λ e'. summed c.pc (coded sr c.ccr) (written c.second (written c.first g)) e')
    (undone sr g e) e

-- the next address says that the change was done, none that nothing was
abbrev pub agreed_mac : Option ℕ → Change → ℕ → Emac → List ℕ → AfterMac
agreed_mac (Some next) c sr e g = in_unit c sr e g
agreed_mac None c sr e g = undone sr g e

-- ---- a product that is yet to be summed

-- of registers x and y, by the second word w
abbrev pub product_by : ℕ → ℕ → ℕ → ℕ → ℕ → ℕ → Product
product_by next macsr w i x y =
    record {
      next = next;
      accumulator = i;
      scale = bits 10 9 w;
      subtracted = bit_of 8 w;
      x = operand macsr w (bit_of 7 w) x;
      y = operand macsr w (bit_of 6 w) y;
    }

-- with the unit that it is summed in
abbrev pub once_summed : Option Product → ℕ → Emac → List ℕ → AfterMac
once_summed (Some p) sr e g = summed p.next sr g (accumulate e p.accumulator p.scale p.subtracted p.x p.y)
once_summed None sr e g = undone sr g e

abbrev pub agreed_product : Option Product → Change → ℕ → Emac → List ℕ → AfterMac
agreed_product (Some p) c sr e g = in_unit c sr e g
agreed_product None c sr e g = undone sr g e

-- ---- a load

-- the change that loads v
abbrev pub loading : List ℕ → ℕ → ℕ → ℕ → ℕ → ℕ → ℕ → Write → Change
loading g sr macsr op w v next step =
    record {
      pc = next;
      ccr = kept_codes sr;
      first = write_general (mac_register op) v;
      second = step;
      action = accumulating macsr w (1 - bits 7 7 op + bits 4 4 w * 2) (general g (high_four w)) (general g (low_four w));
    }

-- the change that loads from a spot. None says nothing
abbrev pub from_spot : Option Spot → List ℕ → ℕ → ℕ → Memory → ℕ → ℕ → Change → Change
from_spot (Some s) g sr macsr m op w c = reading (load m s.at Long) λ v. loading g sr macsr op w v s.next s.moved
from_spot None g sr macsr m op w c = c
