-- MOVE to Dn is MOVE to any operand: the registers' data part is as it was after the source's move. Assumes nothing.
use Rattle.std.specs.Prelude.{ℕ, ◌/◌, ◌%◌, ◌≤◌, ◌≡◌, List, Result, Ok, Err}
use Rattle.std.proofs.Math.Path.{refl}
use Rattle.std.proofs.Common.{arith, get_or-set_other, lt-ltb, le-ltb}
use Rattle.manual.specs.declared.Fault.{Fault}
use Rattle.manual.specs.declared.Size.{Size}
use Rattle.manual.specs.declared.Operand.{Operand}
use Rattle.manual.specs.declared.Operand.TheVariants.{Data, Address, Indirect, PostIncrement, PreDecrement, Displaced, Indexed, AbsoluteWord, AbsoluteLong, PcDisplaced, PcIndexed, Immediate, Zero}
use Rattle.manual.specs.declared.Source.{Source}
use Rattle.manual.specs.declared.Destination.{Destination}
use Rattle.manual.specs.declared.Write.{Write}
use Rattle.manual.specs.declared.Change.{Change}
use Rattle.manual.specs.Word.{plus, merged}
use Rattle.manual.specs.Registers.{data_of, no_write, write_data, write_address, written}
use Rattle.manual.specs.Flags.{move_codes}
use Rattle.manual.specs.Fields.{upper, upper_mode}
use Rattle.manual.specs.Memory.{Memory}
use Rattle.manual.specs.Address.{operand, operand_of, extension, locate, moved, source, destination_of}
use Rattle.manual.specs.Change.{done, put, reading_source}
use Rattle.word.specs.TestLaws.{by-lt}
use Rattle.instructions.specs.Moves.{move}

-- a value goes to an operand whose extension words are at pc, after another operand's move
unfoldable pub move_to : Size → List ℕ → ℕ → Memory → ℕ → Write → Operand → ℕ → Change
move_to z g sr m pc first o v =
    let to : Destination = destination_of g m pc o z in
    put g z v to.place (done to.next (move_codes z v sr) first to.moved)

-- ---- an operand's move leaves the data registers

no_data : (g : List ℕ) (o : Operand) (z : Size) → 8 ≤ (moved g o z).to
unfolding moved no_write write_address
no_data g (Data r) z = omega arith
no_data g (Address r) z = omega arith
no_data g (Indirect r) z = omega arith
no_data g (PostIncrement r) z = omega arith
no_data g (PreDecrement r) z = omega arith
no_data g (Displaced r) z = omega arith
no_data g (Indexed r) z = omega arith
no_data g AbsoluteWord z = omega arith
no_data g AbsoluteLong z = omega arith
no_data g PcDisplaced z = omega arith
no_data g PcIndexed z = omega arith
no_data g Immediate z = omega arith
no_data g Zero z = omega arith

data_kept : (w : Write) (g : List ℕ) (r : ℕ) → 8 ≤ w.to → data_of (written w g) r ≡ data_of g r
unfolding data_of written
data_kept w g r h = by-lt w.to 16
    (λ l. rw (lt-ltb w.to 16 l) (get_or-set_other g w.to (r % 8) w.value 0 (λ e. omega (arith, e))))
    (λ l. rw (le-ltb w.to 16 l))

none-past : (a b : ℕ) → plus (plus a b) 0 ≡ plus a b
unfolding plus
none-past a b = omega arith

-- ---- MOVE to Dn

unfoldable pub move_to_data : Size → List ℕ → ℕ → ℕ → Memory → ℕ → Change
move_to_data z g at sr m op =
    reading_source g m (plus at 2) op z λ from v.
    done from.next (move_codes z v sr) from.moved (write_data (upper op) (merged z (data_of g (upper op)) v))

module _ (z : Size) (g : List ℕ) (at sr : ℕ) (m : Memory) (op : ℕ) where
  from-moved : 8 ≤ (source g m (plus at 2) op z).moved.to
  unfolding source
  from-moved = no_data g (operand_of op) z

  from_next : plus (source g m (plus at 2) op z).next 0 ≡ (source g m (plus at 2) op z).next
  unfolding source
  from_next = none-past _ _

  to_data : (w : Write) (pc v : ℕ) → op / 64 % 8 ≡ 0 → 8 ≤ w.to
      → move_to z (written w g) sr m pc w (operand (upper_mode op) (upper op)) v
      ≡ done (plus pc 0) (move_codes z v sr) w (write_data (upper op) (merged z (data_of g (upper op)) v))
  unfolding move_to destination_of operand locate extension moved put done
  to_data w pc v e h = rw (e, data_kept w g (upper op) h)

  pub move_data : op / 64 % 8 ≡ 0 → move z g at sr m op ≡ move_to_data z g at sr m op
  unfolding move move_to_data move_to
  move_data e = by (source g m (plus at 2) op z).got refl
    where
      by : (x : Result ℕ Fault) → (source g m (plus at 2) op z).got ≡ x → move z g at sr m op ≡ move_to_data z g at sr m op
      by (Ok v) q =
          let from : Source = source g m (plus at 2) op z in
          rw q (rw from_next at (to_data from.moved from.next v e from-moved))
      by (Err x) q = rw q
