-- What an instruction can change, and the parts that the instructions' definitions are made of.
use Rattle.std.specs.Prelude.{ℕ, Result, Option, Ok, Err, Some, None}
use mathlib.Core.{List.List}
use Rattle.manual.specs.declared.{Size.Size, Fault.Fault, Place.Place, Place.TheVariants.D, Place.TheVariants.A, Place.TheVariants.M, Place.TheVariants.I}
use Rattle.manual.specs.declared.{Write.Write, Source.Source, Destination.Destination, Reply.Reply}
use Rattle.manual.specs.declared.{Action.Action, Action.TheVariants.Nothing, Action.TheVariants.Store, Action.TheVariants.Enter, Action.TheVariants.Refuse, Change.Change, Size.TheVariants.Long}
use Rattle.manual.specs.{Word.merged, Word.minus, Registers.data_of, Registers.address_of, Registers.no_write, Registers.write_data, Registers.write_address, Flags.kept_codes, Memory.Memory, Address.fetch, Address.source}
use Rattle.manual.specs.{Address.destination, Reply.fault_reply, Differences.store_to_address, Differences.store_to_immediate}

-- registers alone: the first write, then the second
unfoldable pub done : ℕ → ℕ → Write → Write → Change
done next codes first second = record { pc = next; ccr = codes; first = first; second = second; action = Nothing }

-- registers, and a store of the low bits of v
unfoldable pub store : ℕ → ℕ → Write → Write → ℕ → Size → ℕ → Change
store next codes first second a z v = record { pc = next; ccr = codes; first = first; second = second; action = Store a z v }

-- an operand's move, and what is left to be done
unfoldable pub acting : ℕ → ℕ → Write → Action → Change
acting sr next moved a = record { pc = next; ccr = kept_codes sr; first = moved; second = no_write; action = a }

-- an exception of a vector, with a pc in its frame, after an operand's move
unfoldable pub enter_after : Write → ℕ → ℕ → ℕ → Change
enter_after moved sr vector at = acting sr at moved (Enter vector at)

unfoldable pub enter : ℕ → ℕ → ℕ → Change
enter sr vector at = enter_after no_write sr vector at

-- vector 4, with the pc of the word
unfoldable pub illegal : ℕ → ℕ → Change
illegal at sr = enter sr 4 at

-- vector 8, with the pc of the word
unfoldable pub privilege : ℕ → ℕ → Change
privilege at sr = enter sr 8 at

unfoldable pub refuse : Reply → Change
refuse n = record { pc = 0; ccr = 0; first = no_write; second = no_write; action = Refuse n }

unfoldable pub refused : Fault → Change
refused x = refuse (fault_reply x)

-- the program goes on elsewhere
unfoldable pub jump : ℕ → ℕ → Change
jump sr next = done next (kept_codes sr) no_write no_write

-- a long is pushed, and the program goes on at `next`: A7 goes down by 4, and the long is stored there
unfoldable pub push : List ℕ → ℕ → ℕ → ℕ → Change
push g sr next v =
    let sp : ℕ = minus (address_of g 7) 4 in
    store next (kept_codes sr) (write_address 7 sp) no_write sp Long v

-- goes on with a number that was read, if it was
abbrev pub reading : Result ℕ Fault → (ℕ → Change) → Change
reading (Ok v) f = f v
reading (Err x) f = refused x

-- goes on with the address of a control mode; a mode that has none is an illegal instruction
abbrev pub reaching : ℕ → ℕ → Option (Result ℕ Fault) → (ℕ → Change) → Change
reaching sr at (Some got) f = reading got f
reaching sr at None f = illegal at sr

-- goes on where a place was found, whatever it is
abbrev pub locating : Result Place Fault → Change → Change
locating (Ok (D r)) c = c
locating (Ok (A r)) c = c
locating (Ok (M a)) c = c
locating (Ok (I v)) c = c
locating (Err x) c = refused x

-- a value of a size goes to a place, g being the registers after the first write: c is the change but for that.
-- A data register keeps its other bits. A register's operand moves no address register, so the register takes the second write
unfoldable pub put : List ℕ → Size → ℕ → Result Place Fault → Change → Change
put g z v (Ok (D r)) c = done c.pc c.ccr c.first (write_data r (merged z (data_of g r) v))
put g z v (Ok (A r)) c = store_to_address r v c
put g z v (Ok (M a)) c = store c.pc c.ccr c.first c.second a z v
put g z v (Ok (I i)) c = store_to_immediate c
put g z v (Err x) c = refused x

-- a value of a size goes to the operand that a word names, whose register moves
unfoldable pub put_to : List ℕ → ℕ → Destination → Size → ℕ → Change
put_to g codes to z v = put g z v to.place (done to.next codes to.moved no_write)

-- the operand that a word names is read: goes on with all that is read of it, and with its value
abbrev pub reading_source : List ℕ → Memory → ℕ → ℕ → Size → (Source → ℕ → Change) → Change
reading_source g m pc op z f =
    let from : Source = source g m pc op z in
    reading from.got λ v. f from v

-- the same where it is written: goes on with where that is, and with its value
abbrev pub reading_place : List ℕ → Memory → ℕ → ℕ → Size → (Destination → ℕ → Change) → Change
reading_place g m pc op z f =
    let to : Destination = destination g m pc op z in
    reading (fetch g m to.place z) λ v. f to v

-- condition codes and a value, made of an operand's value
pub record Updated : Type 0 where
  pub codes : ℕ
  pub value : ℕ

abbrev pub updated : ℕ → ℕ → Updated
updated codes v = record { codes = codes; value = v }

-- the operand that a word names is read, and what f makes of its value goes back to it
abbrev pub updating : List ℕ → Memory → ℕ → ℕ → Size → (ℕ → Updated) → Change
updating g m pc op z f = reading_place g m pc op z λ to v. put_to g (f v).codes to z (f v).value
