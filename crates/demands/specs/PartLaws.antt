-- Which accesses the parts of an instruction make, and what they do then: at the first fault of the accesses an instruction is refused,
-- and where there is none it has its effect. Assumes nothing.
use Rattle.std.specs.Prelude.{ℕ, zero, suc, ◌/◌, ◌%◌, ◌≡◌, Bool, true, false, cond, ◌↔◌, get_or, Result, Option, Ok, Err, Some, None}
use Rattle.std.proofs.Math.Path.{refl}
use Rattle.std.specs.Result.{result_and}
use Rattle.std.proofs.Common.{sym, ◌∙◌, arith}
use mathlib.Core.List.{List, [], ◌∷◌, ◌++◌}
use Rattle.manual.specs.declared.Size.{Size}
use Rattle.manual.specs.declared.Size.TheVariants.{Byte, Word, Long}
use Rattle.manual.specs.declared.Fault.{Fault}
use Rattle.manual.specs.declared.Fault.TheVariants.{Outside as Out}
use Rattle.manual.specs.declared.Place.{Place}
use Rattle.manual.specs.declared.Place.TheVariants.{D, A, M, I}
use Rattle.manual.specs.declared.Write.{Write}
use Rattle.manual.specs.declared.Destination.{Destination}
use Rattle.manual.specs.declared.Operand.{Operand}
use Rattle.manual.specs.declared.Operand.TheVariants.{Data, Address, Indirect, PostIncrement, PreDecrement, Displaced, Indexed, AbsoluteWord, AbsoluteLong, PcDisplaced, PcIndexed, Immediate, Zero}
use Rattle.manual.specs.declared.Action.{Action}
use Rattle.manual.specs.declared.Action.TheVariants.{Nothing, Store, StoreMany, LoadMany, Enter, Return, Status, Stop, PushStatus, Halt, SetOther, Accumulate, SetAcc, SetExt, SetMacsr, SetMask, CopyAcc, ClearAcc, MoveControl, Refuse}
use Rattle.manual.specs.declared.Change.{Change}
use Rattle.manual.specs.Word.{bytes}
use Rattle.manual.specs.Memory.{Memory, storage_of, access, taken, first_fault, found, load, number_in, number_at}
use Rattle.manual.specs.Address.{operand, extension, immediate, locate, fetch, value, source, reached, control, ◌then◌, destination, destination_of}
use Rattle.manual.specs.Reply.{number_of, fault_reply}
use Rattle.manual.specs.Change.{done, store, acting, enter_after, enter, illegal, privilege, refused, reading, reaching, locating, put, put_to, updating, Updated}
use Rattle.demands.specs.AccessLaws.{here_or_not, taken_or_not}
use Rattle.demands.specs.Accesses.{Wanted, wanted, Inside, words, named, own, extension_of, operand_at, reached_by, control_at, SomeOutside, this, another}
use Rattle.manual.specs.Registers.{no_write}
use Rattle.demands.specs.Effects.{Effect, nothing, stores, pushes_status, stores_many, loads_many, enters, returns, to_place, illegal_word, at_address, operand_value, updates, Vector, illegal-word, violation}

-- an action that neither stores, reads memory, enters, returns nor refuses
abbrev pub quiet : Action → Bool
quiet Nothing = true
quiet (Store a z v) = false
quiet (StoreMany mask a) = false
quiet (LoadMany mask a) = false
quiet (Enter vector pc) = false
quiet Return = false
quiet (Status v) = true
quiet (Stop v) = true
quiet (PushStatus v) = false
quiet Halt = true
quiet (SetOther v) = true
quiet (Accumulate i scale sub x y) = true
quiet (SetAcc i v) = true
quiet (SetExt i v) = true
quiet (SetMacsr v) = true
quiet (SetMask v) = true
quiet (CopyAcc from to) = true
quiet (ClearAcc i) = true
quiet (MoveControl writes c n) = true
quiet (Refuse n) = false

-- the change c of a word at `at` has the effect, sr being the status register
pub data Does (at sr : ℕ) : Effect → Change → Type 0 where
  does-nothing : {c : Change} → quiet c.action ≡ true → Does at sr nothing c
  does-store : {c : Change} {a : ℕ} {z : Size} {v : ℕ} → c.action ≡ Store a z v → Does at sr (stores a z v) c
  does-push : (next v : ℕ) → Does at sr pushes_status (acting sr next no_write (PushStatus v))
  does_store_many : (next : ℕ) {regs a : ℕ} → Does at sr (stores_many regs a) (acting sr next no_write (StoreMany regs a))
  does_load_many : (next : ℕ) {regs a : ℕ} → Does at sr (loads_many regs a) (acting sr next no_write (LoadMany regs a))
  does-enter : {w : Write} {vector pc : ℕ} → Vector at w vector pc → Does at sr (enters w vector pc) (enter_after w sr vector pc)
  does-return : (next : ℕ) → Does at sr returns (acting sr next no_write Return)

-- all the accesses of a list: the first fault, if any
abbrev pub access_all : Memory → List Wanted → Result Unit Fault
access_all m [] = Ok tt
access_all m (x ∷ l) = first_fault (access m x.address x.count) (access_all m l)

-- the number that a fault is refused with; n where there is none
abbrev pub number_or : Result Unit Fault → ℕ → ℕ
number_or (Ok tt) n = n
number_or (Err x) n = number_of (fault_reply x)

-- 4 is the number of an access that is not inside, so of some access of the list
pub some_outside : (m : Memory) (l : List Wanted) → (number_or (access_all m l) 0 ≡ 4) ↔ SomeOutside m l
some_outside m [] = (λ h. absurd (omega arith), λ h. absurd (nowhere_in h))
  where
    nowhere_in : SomeOutside m [] → ⊥
    nowhere_in = elim [ ]
some_outside m (x ∷ l) = by (access m x.address x.count) refl (some_outside m l)
  where
    past : (p : ℕ) → access m x.address x.count ≡ Ok p → SomeOutside m (x ∷ l) → SomeOutside m l
    past p i (this o) = absurd (here_or_not p Out (sym i ∙ o))
    past p i (another h) = h

    by : (y : Result ℕ Fault) → access m x.address x.count ≡ y → (number_or (access_all m l) 0 ≡ 4) ↔ SomeOutside m l
        → (number_or (first_fault y (access_all m l)) 0 ≡ 4) ↔ SomeOutside m (x ∷ l)
    by (Ok p) i rest = (λ h. another (rest.0 h), λ h. rest.1 (past p i h))
    by (Err Out) i rest = (λ h. this i, λ h. refl)

-- an access that is inside has no fault
pub past-inside : (m : Memory) (a n : ℕ) (l : List Wanted) → Inside m a n → access_all m (wanted a n ∷ l) ≡ access_all m l
past-inside m a n l = by (access m a n)
  where
    by : (x : Result ℕ Fault) → taken x ≡ Ok tt → first_fault x (access_all m l) ≡ access_all m l
    by (Ok at) h = refl
    by (Err x) h = absurd (taken_or_not x h)

-- what an instruction does after accesses with the first fault that is given: it is refused with the fault, or has the effect
abbrev pub Follows : ℕ → ℕ → Result Unit Fault → Effect → Change → Type 0
Follows at sr (Ok tt) e c = Does at sr e c
Follows at sr (Err x) e c = c ≡ refused x

-- c makes the accesses l and has then the effect e
abbrev pub Made : ℕ → ℕ → Memory → List Wanted → Effect → Change → Type 0
Made at sr m l e c = Follows at sr (access_all m l) e c

-- ---- the parts that bodies are made of

-- the fault of a number that was not read, of a place that was not found
abbrev pub fault_of : {T : Type 0} → Result T Fault → Result Unit Fault
fault_of (Ok v) = Ok tt
fault_of (Err x) = Err x

-- and of an address that was not reached
abbrev pub unreached : Option (Result ℕ Fault) → Result Unit Fault
unreached (Some got) = fault_of got
unreached None = Ok tt

pub illegal-does : (at sr : ℕ) → Does at sr (illegal_word at) (illegal at sr)
unfolding illegal enter
illegal-does at sr = does-enter illegal-word

pub privilege-does : (at sr : ℕ) → Does at sr (enters no_write 8 at) (privilege at sr)
unfolding privilege enter no_write
privilege-does at sr = does-enter (violation {w = no_write} (omega arith))

-- ---- the accesses of the parts

module _ (m : Memory) where
  -- one list and then another: the first fault of both
  pub all_both : (l k : List Wanted) → access_all m (l ++ k) ≡ result_and (access_all m l) (access_all m k)
  all_both [] k = refl
  all_both (x ∷ l) k = by (access m x.address x.count) (all_both l k)
    where
      by : (y : Result ℕ Fault) → access_all m (l ++ k) ≡ result_and (access_all m l) (access_all m k)
          → first_fault y (access_all m (l ++ k)) ≡ result_and (first_fault y (access_all m l)) (access_all m k)
      by (Ok at) e = e
      by (Err x) e = refl

  pub missing-found : (z : Size) (x : Result ℕ Fault) → fault_of (found (storage_of m) z x) ≡ first_fault x (Ok tt)
  missing-found z (Ok at) = refl
  missing-found z (Err x) = refl

  then_place : (z : Size) (x : Result ℕ Fault) (f : ℕ → Place) → fault_of (found (storage_of m) z x then f) ≡ first_fault x (Ok tt)
  then_place z (Ok at) f = refl
  then_place z (Err x) f = refl

  module _ (g : List ℕ) (pc : ℕ) where
    pub locate-made : (o : Operand) (z : Size) → fault_of (locate g m pc o z) ≡ access_all m (words pc (extension o z))
    unfolding locate immediate extension load
    locate-made (Data r) z = refl
    locate-made (Address r) z = refl
    locate-made (Indirect r) z = refl
    locate-made (PostIncrement r) z = refl
    locate-made (PreDecrement r) z = refl
    locate-made (Displaced r) z = then_place Word (access m pc 2) _
    locate-made (Indexed r) z = then_place Word (access m pc 2) _
    locate-made AbsoluteWord z = then_place Word (access m pc 2) _
    locate-made AbsoluteLong z = then_place Long (access m pc 4) _
    locate-made PcDisplaced z = then_place Word (access m pc 2) _
    locate-made PcIndexed z = then_place Word (access m pc 2) _
    locate-made Immediate Byte = then_place Word (access m pc 2) _
    locate-made Immediate Word = then_place Word (access m pc 2) _
    locate-made Immediate Long = then_place Long (access m pc 4) _
    locate-made Zero z = refl

  -- what stands at a place that was looked for
  missing_at : (g : List ℕ) (z : Size) (l : List Wanted) (place : Result Place Fault) → fault_of place ≡ access_all m l
      → fault_of (fetch g m place z) ≡ access_all m (l ++ own place z)
  unfolding fetch load
  missing_at g z l (Ok (D r)) e = rw (all_both l [], ← e)
  missing_at g z l (Ok (A r)) e = rw (all_both l [], ← e)
  missing_at g z l (Ok (M a)) e = rw (all_both l (wanted a (bytes z) ∷ []), ← e) (missing-found z (access m a (bytes z)))
  missing_at g z l (Ok (I v)) e = rw (all_both l [], ← e)
  missing_at g z l (Err x) e = rw (all_both l [], ← e)

  -- the operand that a word names: it is read, or written
  module _ (g : List ℕ) (pc op : ℕ) (z : Size) where
    missing-operand : fault_of (value g m pc (named op) z) ≡ access_all m (operand_at g m pc op z)
    unfolding value
    missing-operand = missing_at g z (extension_of pc op z) (locate g m pc (named op) z) (locate-made g pc (named op) z)

    pub destination-found : fault_of (destination g m pc op z).place ≡ access_all m (extension_of pc op z)
    unfolding destination_of
    destination-found = locate-made g pc (named op) z

  -- a data register takes no access
  pub of_data : (g : List ℕ) (pc op : ℕ) (z : Size) → op / 8 % 8 ≡ 0 → operand_at g m pc op z ≡ []
  unfolding operand extension locate
  of_data g pc op z h = rw h

  -- the words of an immediate are all that is read of it
  module _ (g : List ℕ) (pc : ℕ) where
    found_number : (w : Size) (x : Result ℕ Fault) (f : ℕ → ℕ) (z : Size) → fault_of (fetch g m (found (storage_of m) w x then λ v. I (f v)) z) ≡ first_fault x (Ok tt)
    unfolding fetch
    found_number w (Ok at) f z = refl
    found_number w (Err x) f z = refl

    pub missing-immediate : (z : Size) → fault_of (value g m pc Immediate z) ≡ access_all m (words pc (extension Immediate z))
    unfolding value locate immediate extension load
    missing-immediate Byte = found_number Word (access m pc 2) _ Byte
    missing-immediate Word = found_number Word (access m pc 2) _ Word
    missing-immediate Long = found_number Long (access m pc 4) _ Long

  -- a control mode
  reached_missed : (l : List Wanted) (place : Result Place Fault) → fault_of place ≡ access_all m l → unreached (reached place) ≡ access_all m (reached_by (reached place) l)
  reached_missed l (Ok (D r)) e = refl
  reached_missed l (Ok (A r)) e = refl
  reached_missed l (Ok (M a)) e = e
  reached_missed l (Ok (I v)) e = refl
  reached_missed l (Err x) e = e

  module _ (g : List ℕ) (pc : ℕ) where
    mode : (o : Operand) → let got : Option (Result ℕ Fault) = reached (locate g m pc o Long) in unreached got ≡ access_all m (reached_by got (words pc (extension o Long)))
    mode o = reached_missed (words pc (extension o Long)) (locate g m pc o Long) (locate-made g pc o Long)

    operand-reached : (o : Operand) → unreached (control g m pc o) ≡ access_all m (reached_by (control g m pc o) (words pc (extension o Long)))
    unfolding control
    operand-reached (Data r) = refl
    operand-reached (Address r) = refl
    operand-reached (Indirect r) = mode (Indirect r)
    operand-reached (PostIncrement r) = refl
    operand-reached (PreDecrement r) = refl
    operand-reached (Displaced r) = mode (Displaced r)
    operand-reached (Indexed r) = mode (Indexed r)
    operand-reached AbsoluteWord = mode AbsoluteWord
    operand-reached AbsoluteLong = mode AbsoluteLong
    operand-reached PcDisplaced = mode PcDisplaced
    operand-reached PcIndexed = mode PcIndexed
    operand-reached Immediate = refl
    operand-reached Zero = refl

    pub control_missed : (op : ℕ) → unreached (control g m pc (named op)) ≡ access_all m (control_at g m pc op)
    control_missed op = operand-reached (named op)

-- ---- what the parts do

module _ (at sr : ℕ) (m : Memory) where
  abbrev Makes : List Wanted → Effect → Change → Type 0
  Makes l e c = Made at sr m l e c

  pub cond_made : (b : Bool) (l k : List Wanted) (e f : Effect) (x y : Change) → Makes l e x → Makes k f y → Makes (cond b l k) (cond b e f) (cond b x y)
  cond_made true l k e f x y p q = p
  cond_made false l k e f x y p q = q

  -- the same accesses either way
  pub either-made : (b : Bool) (l : List Wanted) (e f : Effect) (x y : Change) → Makes l e x → Makes l f y → Makes l (cond b e f) (cond b x y)
  either-made true l e f x y p q = p
  either-made false l e f x y p q = q

  -- the same effect either way
  pub either-reads : (b : Bool) (l k : List Wanted) (e : Effect) (x y : Change) → Makes l e x → Makes k e y → Makes (cond b l k) e (cond b x y)
  either-reads true l k e x y p q = p
  either-reads false l k e x y p q = q

  pub either-quiet : (b : Bool) (x y : Change) → quiet x.action ≡ true → quiet y.action ≡ true → Does at sr nothing (cond b x y)
  either-quiet true x y p q = does-nothing p
  either-quiet false x y p q = does-nothing q

  -- a number is read, and the rest hangs on it
  pub load-made : (a : ℕ) (z : Size) (k : List Wanted) (e : Effect) (f : ℕ → Change) → Makes k e (f (number_at m a z)) → Makes (wanted a (bytes z) ∷ k) e (reading (load m a z) f)
  unfolding load
  load-made a z k e f h = by (access m a (bytes z)) h
    where
      by : (x : Result ℕ Fault) → Makes k e (f (number_in (found (storage_of m) z x)))
          → Follows at sr (first_fault x (access_all m k)) e (reading (found (storage_of m) z x) f)
      by (Ok p) h = h
      by (Err x) h = refl

  pub reading-made : (l k : List Wanted) (e : Effect) (got : Result ℕ Fault) (f : ℕ → Change) → fault_of got ≡ access_all m l → Makes k e (f (number_in got)) → Makes (l ++ k) e (reading got f)
  reading-made l k e (Ok v) f p h = rw (all_both m l k, ← p) h
  reading-made l k e (Err x) f p h = rw (all_both m l k, ← p)

  -- and no more than that
  pub reading-only : (l : List Wanted) (e : Effect) (got : Result ℕ Fault) (f : ℕ → Change) → fault_of got ≡ access_all m l → Does at sr e (f (number_in got)) → Makes l e (reading got f)
  reading-only l e (Ok v) f p h = rw (← p) h
  reading-only l e (Err x) f p h = rw (← p)

  -- a value goes to a place that was looked for
  pub put-made : (l : List Wanted) (g : List ℕ) (z : Size) (v : ℕ) (place : Result Place Fault) (next codes : ℕ) (first second : Write)
      → fault_of place ≡ access_all m l → Makes l (to_place place z v) (put g z v place (done next codes first second))
  unfolding put done store
  put-made l g z v (Ok (D r)) next codes first second e = rw (← e) (does-nothing refl)
  put-made l g z v (Ok (A r)) next codes first second e = rw (← e) (does-nothing refl)
  put-made l g z v (Ok (M a)) next codes first second e = rw (← e) (does-store refl)
  put-made l g z v (Ok (I i)) next codes first second e = rw (← e) (does-nothing refl)
  put-made l g z v (Err x) next codes first second e = rw (← e)

  pub put_to-made : (l : List Wanted) (g : List ℕ) (codes : ℕ) (to : Destination) (z : Size) (v : ℕ)
      → fault_of to.place ≡ access_all m l → Makes l (to_place to.place z v) (put_to g codes to z v)
  unfolding put_to
  put_to-made l g codes to z v e = put-made l g z v to.place to.next codes to.moved no_write e

  pub locating-made : (l : List Wanted) (e : Effect) (place : Result Place Fault) (c : Change) → fault_of place ≡ access_all m l → Does at sr e c → Makes l e (locating place c)
  locating-made l e (Ok (D r)) c p h = rw (← p) h
  locating-made l e (Ok (A r)) c p h = rw (← p) h
  locating-made l e (Ok (M a)) c p h = rw (← p) h
  locating-made l e (Ok (I v)) c p h = rw (← p) h
  locating-made l e (Err x) c p h = rw (← p)

  -- what stands at a place that was looked for is read, and then it is written, or something else is done
  module _ (g : List ℕ) (z : Size) (l : List Wanted) where
    nowhere-fetched : (x : Fault) (f : ℕ → Change) → reading (fetch g m (Err x) z) f ≡ refused x
    unfolding fetch
    nowhere-fetched x f = refl

    fetch-made : (place : Result Place Fault) (e : Effect) (f : ℕ → Change) → fault_of place ≡ access_all m l
        → (fault_of place ≡ Ok tt → Does at sr e (f (number_in (fetch g m place z))))
        → Makes (l ++ own place z) e (reading (fetch g m place z) f)
    fetch-made (Ok (D r)) e f p h = reading-only (l ++ own (Ok (D r)) z) e (fetch g m (Ok (D r)) z) f (missing_at m g z l (Ok (D r)) p) (h refl)
    fetch-made (Ok (A r)) e f p h = reading-only (l ++ own (Ok (A r)) z) e (fetch g m (Ok (A r)) z) f (missing_at m g z l (Ok (A r)) p) (h refl)
    fetch-made (Ok (M a)) e f p h = reading-only (l ++ own (Ok (M a)) z) e (fetch g m (Ok (M a)) z) f (missing_at m g z l (Ok (M a)) p) (h refl)
    fetch-made (Ok (I v)) e f p h = reading-only (l ++ own (Ok (I v)) z) e (fetch g m (Ok (I v)) z) f (missing_at m g z l (Ok (I v)) p) (h refl)
    fetch-made (Err x) e f p h = rw (all_both m l [], ← p) (nowhere-fetched x f)

  -- ---- the operand that a word names

  module _ (g : List ℕ) (pc op : ℕ) (z : Size) where
    pub source-made : (k : List Wanted) (e : Effect) (f : ℕ → Change) → Makes k e (f (operand_value g at sr m op pc z)) → Makes (operand_at g m pc op z ++ k) e (reading (source g m pc op z).got f)
    unfolding source
    source-made k e f h = reading-made (operand_at g m pc op z) k e (value g m pc (named op) z) f (missing-operand m g pc op z) h

    pub source-only : (e : Effect) (f : ℕ → Change) → Does at sr e (f (operand_value g at sr m op pc z)) → Makes (operand_at g m pc op z) e (reading (source g m pc op z).got f)
    unfolding source
    source-only e f h = reading-only (operand_at g m pc op z) e (value g m pc (named op) z) f (missing-operand m g pc op z) h

    -- it is read and written, or not written
    pub destination-made : (e : Effect) (f : ℕ → Change) → (fault_of (destination g m pc op z).place ≡ Ok tt → Does at sr e (f (operand_value g at sr m op pc z)))
        → Makes (operand_at g m pc op z) e (reading (fetch g m (destination g m pc op z).place z) f)
    unfolding destination_of value
    destination-made e f h = fetch-made g z (extension_of pc op z) (locate g m pc (named op) z) e f (locate-made m g pc (named op) z) h

    -- what f makes of it goes back to it
    pub updating-made : (f : ℕ → Updated) → Makes (operand_at g m pc op z) (updates g at sr m op pc z λ v. (f v).value) (updating g m pc op z f)
    unfolding destination_of value
    updating-made f = destination-made _ _ (λ found. put_to-made [] g _ (destination g m pc op z) z _ found)

  pub reaching-made : (l : List Wanted) (e : ℕ → Effect) (got : Option (Result ℕ Fault)) (f : ℕ → Change) → unreached got ≡ access_all m l → ((a : ℕ) → Does at sr (e a) (f a)) → Makes l (at_address at got e) (reaching sr at got f)
  reaching-made l e (Some (Ok a)) f p h = rw (← p) (h a)
  reaching-made l e (Some (Err x)) f p h = rw (← p)
  reaching-made l e None f p h = rw (← p) (illegal-does at sr)

  -- ---- the rows of a line: each makes its accesses and has its effect

  pub data Listed : List (List Wanted) → List Effect → List Change → Type 0 where
    end : Listed [] [] []
    row : {ls : List (List Wanted)} {es : List Effect} {cs : List Change} (l : List Wanted) (e : Effect) (c : Change) → Makes l e c → Listed ls es cs
        → Listed (l ∷ ls) (e ∷ es) (c ∷ cs)

  -- a number that is none of the line's rows is illegal
  pub all_made : {ls : List (List Wanted)} {es : List Effect} {cs : List Change} → Listed ls es cs
      → (i : ℕ) → Makes (get_or ls i []) (get_or es i (illegal_word at)) (get_or cs i (illegal at sr))
  all_made end i = illegal-does at sr
  all_made (row l e c f r) zero = f
  all_made (row l e c f r) (suc i) = all_made r i
