-- The numbers that the parts of an instruction make of longs and of bytes are longs: sums, parts, products, quotients and shifts, what is
-- read, where an operand lies, and what a change holds. Assumes nothing.
use Rattle.std.specs.Prelude.{ℕ, zero, suc, ◌+◌, ◌*◌, ◌%◌, ◌^◌, ◌≤◌, ◌<◌, Bool, true, false, cond, ◌&&◌, List, [], ◌∷◌, eqb, ltb, get_or, set, ℤ, ◌*ℤ◌, Result, Option, Ok, Err, Some, None, IfOk, IfSome}
use Rattle.std.proofs.Common.{mod-lt, div-le_self, mul-le-mul}
use Rattle.std.proofs.Math.Nat.{mod-le}
use native.Mathlib.Omega.{arith}
use Rattle.std.specs.Int.Bits.{and_lt}
use Rattle.std.proofs.lemmas.Nat.{or_lt, xor_lt}
use Rattle.std.specs.Int.Signed.{quot_z, rem_z, shr_z}
use Rattle.manual.specs.declared.Size.{Size}
use Rattle.manual.specs.declared.Size.TheVariants.{Byte, Word, Long}
use Rattle.manual.specs.declared.Mode.{Mode}
use Rattle.manual.specs.declared.Emac.{Emac}
use Rattle.manual.specs.declared.Fault.{Fault}
use Rattle.manual.specs.declared.Place.{Place}
use Rattle.manual.specs.declared.Place.TheVariants.{D, A, M, I}
use Rattle.manual.specs.declared.Write.{Write}
use Rattle.manual.specs.declared.Logic.{Logic}
use Rattle.manual.specs.declared.Logic.TheVariants.{And, Or, Eor}
use Rattle.manual.specs.declared.Operand.{Operand}
use Rattle.manual.specs.declared.Operand.TheVariants.{Data, Address, Indirect, PostIncrement, PreDecrement, Displaced, Indexed, AbsoluteWord, AbsoluteLong, PcDisplaced, PcIndexed, Immediate, Zero}
use Rattle.manual.specs.declared.Quotient.{Quotient}
use Rattle.manual.specs.declared.Reply.{Reply}
use Rattle.manual.specs.declared.Action.{Action}
use Rattle.manual.specs.declared.Action.TheVariants.{Nothing, Store, StoreMany, LoadMany, Enter, Return, Status, Stop, PushStatus, Halt, SetOther, Accumulate, SetAcc, SetExt, SetMacsr, SetMask, CopyAcc, ClearAcc, MoveControl, Refuse}
use Rattle.manual.specs.declared.Change.{Change}
use Rattle.manual.specs.Word.{bytes, numbers, cut, merged, signed, fits, mod_z, sign_extended}
use Rattle.manual.specs.Bits.{logic, changed_bit, reversed_bytes}
use Rattle.manual.specs.Registers.{data_of, address_of, general, no_write, write_data, write_address, write_general, written}
use Rattle.manual.specs.Flags.{added, subtracted, sum_or_difference}
use Rattle.manual.specs.Memory.{Memory, storage_of, access, found, load}
use Rattle.manual.specs.Address.{indexed, locate, moved, fetch, value, reached, control, ◌then◌}
use Rattle.manual.specs.Multiply.{long_product, signed_long_product, word_product, signed_word_product}
use Rattle.manual.specs.Divide.{quotient, signed_quotient}
use Rattle.manual.specs.Shift.{shifted_left, shifted_right, signed_shifted_right}
use Rattle.manual.specs.Emac.{value_of, nearest, rounded, saturated, acc_of, read_acc, read_ext}
use Rattle.manual.specs.Change.{done, store, acting, enter_after, enter, illegal, privilege, refuse, refused, jump, push, reading, reaching, locating, put}
use Rattle.word.specs.BitLaws.{with_below}
use Rattle.word.specs.WordLaws.{numbers-few, some_numbers, cut_below, plus-below, minus-below}
use Rattle.memory.specs.MemoryLaws.{value_lt}
use Rattle.emac.specs.EmacKept.{mod_z-below, ext_below}
use Rattle.demands.specs.Exact.{Bytes}
use Rattle.demands.specs.ValueLaws.{set_below}

-- a number of 32 bits
abbrev pub IsLong : ℕ → Type 0
IsLong v = v < 2 ^ 32

-- what an action puts into the other stack pointer; 0 where it puts nothing there
abbrev pub other_in : Action → ℕ
other_in Nothing = 0
other_in (Store a z v) = 0
other_in (StoreMany mask a) = 0
other_in (LoadMany mask a) = 0
other_in (Enter vector pc) = 0
other_in Return = 0
other_in (Status v) = 0
other_in (Stop v) = 0
other_in (PushStatus v) = 0
other_in Halt = 0
other_in (SetOther v) = v
other_in (Accumulate i scale sub x y) = 0
other_in (SetAcc i v) = 0
other_in (SetExt i v) = 0
other_in (SetMacsr v) = 0
other_in (SetMask v) = 0
other_in (CopyAcc from to) = 0
other_in (ClearAcc i) = 0
other_in (MoveControl writes c n) = 0
other_in (Refuse n) = 0

-- the numbers that a change puts into the state are longs
pub record FitsLong (c : Change) : Type 0 where
  pub pc-fits : IsLong c.pc
  pub first_fits : IsLong c.first.value
  pub second_fits : IsLong c.second.value
  pub other_fits : IsLong (other_in c.action)

-- a number is below k, if it was read
abbrev pub GotBelow : ℕ → Result ℕ Fault → Type 0
GotBelow k got = IfOk got (λ v. v < k)

-- an address is a long, if it was reached
abbrev pub ReachedFits : Option (Result ℕ Fault) → Type 0
ReachedFits got = IfSome got (GotBelow (2 ^ 32))

-- ---- numbers

-- what holds of two, holds of the one that a test takes
pub either : {A : Type 0} (P : A → Type 0) (b : Bool) (x y : A) → P x → P y → P (cond b x y)
either P true x y p q = p
either P false x y p q = q

pub either-long : (b : Bool) (x y : ℕ) → IsLong x → IsLong y → IsLong (cond b x y)
either-long b x y p q = either IsLong b x y p q

pub of_size : (z : Size) (v : ℕ) → v < numbers z → IsLong v
of_size z v h = omega (arith, numbers-few z)

pub merged-long : (z : Size) (old v : ℕ) → IsLong old → IsLong (merged z old v)
unfolding merged
merged-long Byte old v h = omega arith
merged-long Word old v h = omega arith
merged-long Long old v h = omega arith

pub sign_long : (z : Size) (v : ℕ) → IsLong (sign_extended z v)
unfolding sign_extended
sign_long z v = mod_z-below (signed z v) (2 ^ 32) (omega arith)

pub logic-long : (l : Logic) (a b : ℕ) → IsLong a → IsLong b → IsLong (logic l a b)
unfolding logic
logic-long And a b h k = and_lt 32 a b h k
logic-long Or a b h k = or_lt 32 a b h k
logic-long Eor a b h k = xor_lt 32 a b h k

pub changed_bit-long : (operator n v : ℕ) → n < 32 → IsLong v → IsLong (changed_bit operator n v)
unfolding changed_bit
changed_bit-long operator n v h k = with_below n v _ 32 h k

pub bytes-long : (v : ℕ) → IsLong v → IsLong (reversed_bytes v)
unfolding reversed_bytes
bytes-long v h = omega arith

pub subtracted-long : (z : Size) (s d : ℕ) (x : Bool) → IsLong (subtracted z s d x).value
unfolding subtracted
subtracted-long z s d x = of_size z _ (mod-lt _ (some_numbers z))

pub sum_long : (add : Bool) (z : Size) (s d : ℕ) (x : Bool) → IsLong (sum_or_difference add z s d x).value
unfolding sum_or_difference added
sum_long true z s d x = of_size z _ (mod-lt _ (some_numbers z))
sum_long false z s d x = subtracted-long z s d x

pub long-product : (x y : ℕ) → IsLong (long_product x y)
unfolding long_product
long-product x y = mod-lt (x * y) (omega arith)

pub signed-long_product : (x y : ℕ) → IsLong (signed_long_product x y)
unfolding signed_long_product
signed-long_product x y = mod_z-below (signed Long x *ℤ signed Long y) (2 ^ 32) (omega arith)

pub word-product : (x y : ℕ) → IsLong (word_product x y)
unfolding word_product
word-product x y =
    let a : cut Word x ≤ 0xFFFF = omega (arith, cut_below Word x) in
    let b : cut Word y ≤ 0xFFFF = omega (arith, cut_below Word y) in
    omega (arith, mul-le-mul a b)

pub signed_word-product : (x y : ℕ) → IsLong (signed_word_product x y)
unfolding signed_word_product
signed_word-product x y = mod_z-below (signed Word x *ℤ signed Word y) (2 ^ 32) (omega arith)

-- a quotient and its remainder
pub record QuotientFits (q : Quotient) : Type 0 where
  pub quotient_fits : IsLong q.quotient
  pub remainder_fits : IsLong q.remainder

pub either-quotient : (b : Bool) (p q : Option Quotient) → IfSome p QuotientFits → IfSome q QuotientFits → IfSome (cond b p q) QuotientFits
either-quotient b p q h k = either (λ r. IfSome r QuotientFits) b p q h k

none-fits : IfSome None QuotientFits
none-fits = tt

pub quotient-long : (a b : ℕ) → IsLong a → IfSome (quotient a b) QuotientFits
unfolding quotient
quotient-long a b h =
    either-quotient (eqb b 0) _ _ tt
    (record { quotient_fits = omega (arith, div-le_self a b); remainder_fits = omega (arith, mod-le a b) })

pub signed_quotient-long : (a b : ℕ) → IfSome (signed_quotient a b) QuotientFits
unfolding signed_quotient
signed_quotient-long a b =
    let q : ℤ = quot_z (signed Long a) (signed Long b) in
    let r : ℤ = rem_z (signed Long a) (signed Long b) in
    either-quotient (eqb b 0) _ _ tt
    (either-quotient (fits Long q) _ _
    (record { quotient_fits = mod_z-below q (2 ^ 32) (omega arith); remainder_fits = mod_z-below r (2 ^ 32) (omega arith) })
    tt)

-- one word above another
pub two_words_long : (high low : ℕ) → IsLong (high % 0x1_0000 * 0x1_0000 + low % 0x1_0000)
two_words_long high low = omega arith

pub left-long : (v n : ℕ) → IsLong (shifted_left v n).value
unfolding shifted_left
left-long v n = mod-lt (v * 2 ^ n) (omega arith)

pub right_long : (v n : ℕ) → IsLong v → IsLong (shifted_right v n).value
unfolding shifted_right
right_long v n h = omega (arith, div-le_self v (2 ^ n))

pub signed_right_long : (v n : ℕ) → IsLong (signed_shifted_right v n).value
unfolding signed_shifted_right
signed_right_long v n = mod_z-below (shr_z (signed Long v) (2 ^ n)) (2 ^ 32) (omega arith)

pub acc-long : (k : Mode) (a : ℕ) → IsLong (read_acc k a)
unfolding read_acc
acc-long k a =
    let z : ℤ = value_of k a in
    let short : ℤ = saturated k (2 ^ 15) (nearest z (2 ^ 24)) in
    let whole : ℤ = saturated k (2 ^ 31) (cond k.fi (rounded k.rt z (2 ^ 8)) z) in
    either-long (k.fi && k.su) (mod_z short (2 ^ 16)) (mod_z whole (2 ^ 32))
    (omega (arith, mod_z-below short (2 ^ 16) (omega arith)))
    (mod_z-below whole (2 ^ 32) (omega arith))

pub ext_long : (fi : Bool) (e : Emac) (i : ℕ) → IsLong (read_ext fi e i)
unfolding read_ext
ext_long fi e i = omega (arith, ext_below fi (acc_of e i), ext_below fi (acc_of e (i + 1)))

-- ---- changes

pub no_write-long : IsLong no_write.value
unfolding no_write
no_write-long = omega arith

module _ (next codes : ℕ) (first second : Write) (n : IsLong next) (p : IsLong first.value) (q : IsLong second.value) where
  pub done-fits : FitsLong (done next codes first second)
  unfolding done
  done-fits = record { pc-fits = n; first_fits = p; second_fits = q; other_fits = omega arith }

  pub store-fits : (a : ℕ) (z : Size) (v : ℕ) → FitsLong (store next codes first second a z v)
  unfolding store
  store-fits a z v = record { pc-fits = n; first_fits = p; second_fits = q; other_fits = omega arith }

-- the second write is to a register
module _ (next codes : ℕ) (first : Write) (r v : ℕ) (n : IsLong next) (p : IsLong first.value) (h : IsLong v) where
  pub data_fits : FitsLong (done next codes first (write_data r v))
  unfolding write_data
  data_fits = done-fits next codes first (write_data r v) n p h

  pub address-fits : FitsLong (done next codes first (write_address r v))
  unfolding write_address
  address-fits = done-fits next codes first (write_address r v) n p h

  pub general-fits : FitsLong (done next codes first (write_general r v))
  unfolding write_general
  general-fits = done-fits next codes first (write_general r v) n p h

pub acting-fits : (sr next : ℕ) (moved : Write) (a : Action) → IsLong next → IsLong moved.value → IsLong (other_in a) → FitsLong (acting sr next moved a)
unfolding acting
acting-fits sr next moved a n p h = record { pc-fits = n; first_fits = p; second_fits = no_write-long; other_fits = h }

pub enter_after-fits : (moved : Write) (sr vector at : ℕ) → IsLong at → IsLong moved.value → FitsLong (enter_after moved sr vector at)
unfolding enter_after
enter_after-fits moved sr vector at n p = acting-fits sr at moved (Enter vector at) n p (omega arith)

pub enter-fits : (sr vector at : ℕ) → IsLong at → FitsLong (enter sr vector at)
unfolding enter
enter-fits sr vector at n = enter_after-fits no_write sr vector at n no_write-long

pub illegal-fits : (at sr : ℕ) → IsLong at → FitsLong (illegal at sr)
unfolding illegal
illegal-fits at sr n = enter-fits sr 4 at n

pub privilege-fits : (at sr : ℕ) → IsLong at → FitsLong (privilege at sr)
unfolding privilege
privilege-fits at sr n = enter-fits sr 8 at n

refuse-fits : (n : Reply) → FitsLong (refuse n)
unfolding refuse
refuse-fits n = record { pc-fits = omega arith; first_fits = no_write-long; second_fits = no_write-long; other_fits = omega arith }

pub refused-fits : (x : Fault) → FitsLong (refused x)
unfolding refused
refused-fits x = refuse-fits _

pub jump_fits : (sr next : ℕ) → IsLong next → FitsLong (jump sr next)
unfolding jump
jump_fits sr next n = done-fits next _ no_write no_write n no_write-long no_write-long

pub push-fits : (g : List ℕ) (sr next v : ℕ) → IsLong next → FitsLong (push g sr next v)
unfolding push write_address
push-fits g sr next v n = store-fits next _ (write_address 7 _) no_write n (minus-below _ 4) no_write-long _ Long v

pub either-fits : (b : Bool) (c d : Change) → FitsLong c → FitsLong d → FitsLong (cond b c d)
either-fits b c d p q = either FitsLong b c d p q

pub reading-fits : (k : ℕ) (got : Result ℕ Fault) (f : ℕ → Change) → GotBelow k got → ((v : ℕ) → v < k → FitsLong (f v)) → FitsLong (reading got f)
reading-fits k (Ok v) f h all = all v h
reading-fits k (Err x) f h all = refused-fits x

pub reaching-fits : (sr at : ℕ) (got : Option (Result ℕ Fault)) (f : ℕ → Change) → IsLong at → ReachedFits got → ((a : ℕ) → IsLong a → FitsLong (f a)) → FitsLong (reaching sr at got f)
reaching-fits sr at (Some got) f n h all = reading-fits (2 ^ 32) got f h all
reaching-fits sr at None f n h all = illegal-fits at sr n

pub locating-fits : (place : Result Place Fault) (c : Change) → FitsLong c → FitsLong (locating place c)
locating-fits (Ok (D r)) c h = h
locating-fits (Ok (A r)) c h = h
locating-fits (Ok (M a)) c h = h
locating-fits (Ok (I v)) c h = h
locating-fits (Err x) c h = refused-fits x

-- ---- registers

-- every register is a long
abbrev pub Longs : List ℕ → Type 0
Longs g = (i : ℕ) → IsLong (get_or g i 0)

pub written-longs : (w : Write) (g : List ℕ) → IsLong w.value → Longs g → Longs (written w g)
unfolding written
written-longs w g h all = either Longs (ltb w.to 16) (set g w.to w.value) g (set_below g w.to w.value (2 ^ 32) all h) all

-- an operand's move is to an address, which wraps
pub moved-long : (g : List ℕ) (o : Operand) (z : Size) → IsLong (moved g o z).value
unfolding moved write_address
moved-long g (Data r) z = no_write-long
moved-long g (Address r) z = no_write-long
moved-long g (Indirect r) z = no_write-long
moved-long g (PostIncrement r) z = plus-below _ _
moved-long g (PreDecrement r) z = minus-below _ _
moved-long g (Displaced r) z = no_write-long
moved-long g (Indexed r) z = no_write-long
moved-long g AbsoluteWord z = no_write-long
moved-long g AbsoluteLong z = no_write-long
moved-long g PcDisplaced z = no_write-long
moved-long g PcIndexed z = no_write-long
moved-long g Immediate z = no_write-long
moved-long g Zero z = no_write-long

module _ (g : List ℕ) (all : Longs g) where
  pub data_long : (r : ℕ) → IsLong (data_of g r)
  unfolding data_of
  data_long r = all (r % 8)

  pub address-long : (r : ℕ) → IsLong (address_of g r)
  unfolding address_of
  address-long r = all (8 + r % 8)

  pub general-long : (n : ℕ) → IsLong (general g n)
  unfolding general
  general-long n = all (n % 16)

  -- a long goes to a place
  pub put-fits : (z : Size) (v : ℕ) (place : Result Place Fault) (c : Change) → IsLong v → FitsLong c → FitsLong (put g z v place c)
  unfolding put write_address
  put-fits z v (Ok (D r)) c h f = data_fits c.pc c.ccr c.first r _ f.pc-fits f.first_fits (merged-long z _ v (data_long r))
  put-fits z v (Ok (A r)) c h f = record { pc-fits = f.pc-fits; first_fits = f.first_fits; second_fits = h; other_fits = omega arith }
  put-fits z v (Ok (M a)) c h f = store-fits c.pc c.ccr c.first c.second f.pc-fits f.first_fits f.second_fits a z v
  put-fits z v (Ok (I i)) c h f = f
  put-fits z v (Err x) c h f = refused-fits x

-- ---- what is read of memory that holds bytes

module _ (m : Memory) (bytes-in : Bytes (storage_of m)) where
  pub load_below : (a : ℕ) (z : Size) → GotBelow (numbers z) (load m a z)
  unfolding load
  load_below a z = by z (access m a (bytes z))
    where
      by : (z : Size) (x : Result ℕ Fault) → GotBelow (numbers z) (found (storage_of m) z x)
      by Byte (Ok p) = value_lt (storage_of m) p 1 bytes-in
      by Word (Ok p) = value_lt (storage_of m) p 2 bytes-in
      by Long (Ok p) = value_lt (storage_of m) p 4 bytes-in
      by Byte (Err x) = tt
      by Word (Err x) = tt
      by Long (Err x) = tt

  pub load_fits : (a : ℕ) (z : Size) (f : ℕ → Change) → ((v : ℕ) → v < numbers z → FitsLong (f v)) → FitsLong (reading (load m a z) f)
  load_fits a z f h = reading-fits (numbers z) (load m a z) f (load_below a z) h

  then_fits : (k : ℕ) (got : Result ℕ Fault) (f : ℕ → Place) → GotBelow k got → ((v : ℕ) → v < k → ReachedFits (reached (Ok (f v)))) → ReachedFits (reached (got then f))
  then_fits k (Ok v) f h all = all v h
  then_fits k (Err x) f h all = tt

  -- and of registers that hold longs
  module _ (g : List ℕ) (all : Longs g) where
    pub fetch-below : (place : Result Place Fault) (z : Size) → GotBelow (numbers z) (fetch g m place z)
    unfolding fetch
    fetch-below (Ok (D r)) z = cut_below z (data_of g r)
    fetch-below (Ok (A r)) Byte = cut_below Byte (address_of g r)
    fetch-below (Ok (A r)) Word = cut_below Word (address_of g r)
    fetch-below (Ok (A r)) Long = cut_below Long (address_of g r)
    fetch-below (Ok (M a)) z = load_below a z
    fetch-below (Ok (I v)) z = cut_below z v
    fetch-below (Err x) z = tt

    pub value-below : (pc : ℕ) (o : Operand) (z : Size) → GotBelow (numbers z) (value g m pc o z)
    unfolding value
    value-below pc o z = fetch-below (locate g m pc o z) z

    word_fits : (pc : ℕ) (f : ℕ → Place) → ((v : ℕ) → ReachedFits (reached (Ok (f v)))) → ReachedFits (reached (load m pc Word then f))
    word_fits pc f h = then_fits (numbers Word) (load m pc Word) f (load_below pc Word) (λ v l. h v)

    -- a mode that has an address has one of 32 bits
    pub control-fits : (pc : ℕ) (o : Operand) → ReachedFits (control g m pc o)
    unfolding control locate indexed
    control-fits pc (Data r) = tt
    control-fits pc (Address r) = tt
    control-fits pc (Indirect r) = address-long g all r
    control-fits pc (PostIncrement r) = tt
    control-fits pc (PreDecrement r) = tt
    control-fits pc (Displaced r) = word_fits pc _ (λ w. plus-below _ _)
    control-fits pc (Indexed r) = word_fits pc _ (λ w. plus-below _ _)
    control-fits pc AbsoluteWord = word_fits pc _ (λ w. sign_long Word w)
    control-fits pc AbsoluteLong = then_fits (2 ^ 32) (load m pc Long) _ (load_below pc Long) (λ w l. l)
    control-fits pc PcDisplaced = word_fits pc _ (λ w. plus-below _ _)
    control-fits pc PcIndexed = word_fits pc _ (λ w. plus-below _ _)
    control-fits pc Immediate = tt
    control-fits pc Zero = tt

-- ---- the rows of a line: where each of them fits, and the default does, the one at a place does

infixr 5 ◌&◌
pub data AllFit : List Change → Type 0 where
  end : AllFit []
  ◌&◌ : {c : Change} {l : List Change} → FitsLong c → AllFit l → AllFit (c ∷ l)

pub listed-fits : {l : List Change} → AllFit l → (i : ℕ) (c : Change) → FitsLong c → FitsLong (get_or l i c)
listed-fits end i c h = h
listed-fits (f & rest) zero c h = f
listed-fits (f & rest) (suc i) c h = listed-fits rest i c h
