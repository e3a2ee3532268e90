-- Memory: storage, a list of bytes that is lent, as addresses reach it. Numbers are big-endian, at any address.
-- The manual: "Organization of Data in Memory". An access of n bytes at a is inside exactly when a + n is at most the length.
-- Everything else asks for an access here, and knows neither where its bytes lie nor how long storage is.
use Rattle.manual.specs.declared.Fault.{Fault}
use Rattle.std.specs.Prelude.{ℕ, zero, suc, ◌+◌, ◌*◌, ◌/◌, ◌%◌, Result, Ok, Err}
use mathlib.Core.{Bool.Bool, Bool.cond, List.List}
use lib.{Dec.leb, Dec.eqb, ListN.length, ListN.get_or, ListN.set}
use Rattle.manual.specs.declared.{Size.Size, Size.TheVariants.Long, Fault.TheVariants.Outside}
use Rattle.manual.specs.{Word.bytes, Word.plus, Registers.general}

-- the bytes that are lent, by place
abbrev pub Storage : Type 0
Storage = List ℕ

-- storage as addresses reach it: address 0 is place 0
abbrev pub Memory : Type 0
Memory = Storage

abbrev pub mapped : Storage → Memory
mapped s = s

abbrev pub storage_of : Memory → Storage
storage_of m = m

-- memory with other bytes
abbrev pub on_storage : Memory → Storage → Memory
on_storage m s = s

-- ---- numbers in storage

-- the n bytes from a place as one number, highest first
unfoldable pub value_at : Storage → ℕ → ℕ → ℕ
value_at s at zero = 0
value_at s at (suc n) = value_at s at n * 256 + get_or s (at + n) 0

-- storage with the n low bytes of v from a place on
unfoldable pub store_at : Storage → ℕ → ℕ → ℕ → Storage
store_at s at zero v = s
store_at s at (suc n) v = store_at (set s (at + n) (v % 256)) at n (v / 256)

-- ---- an access of n bytes at an address: where they lie, or what is wrong

abbrev pub inside : Memory → ℕ → ℕ → Bool
inside m a n = leb (a + n) (length (storage_of m))

unfoldable pub access : Memory → ℕ → ℕ → Result ℕ Fault
access m a n = cond (inside m a n) (Ok a) (Err Outside)

-- ---- a number that is read

abbrev pub found : Storage → Size → Result ℕ Fault → Result ℕ Fault
found s z (Ok at) = Ok (value_at s at (bytes z))
found s z (Err x) = Err x

unfoldable pub load : Memory → ℕ → Size → Result ℕ Fault
load m a z = found (storage_of m) z (access m a (bytes z))

-- the number that was read, or 0
abbrev pub number_in : Result ℕ Fault → ℕ
number_in (Ok v) = v
number_in (Err x) = 0

abbrev pub number_at : Memory → ℕ → Size → ℕ
number_at m a z = number_in (load m a z)

-- ---- a number that is stored: what the store answers, and storage after it

abbrev pub taken : Result ℕ Fault → Result Unit Fault
taken (Ok at) = Ok tt
taken (Err x) = Err x

abbrev pub stored_in : Storage → Size → ℕ → Result ℕ Fault → Storage
stored_in s z v (Ok at) = store_at s at (bytes z) v
stored_in s z v (Err x) = s

unfoldable pub storing : Memory → ℕ → Size → Result Unit Fault
storing m a z = taken (access m a (bytes z))

unfoldable pub stored : Memory → ℕ → Size → ℕ → Storage
stored m a z v = stored_in (storage_of m) z v (access m a (bytes z))

-- one thing where memory took it all, else another
abbrev pub if_taken : Result Unit Fault → List ℕ → List ℕ → List ℕ
if_taken (Ok tt) x y = x
if_taken (Err f) x y = y

-- ---- the registers of a mask, D0 lowest, as longs one after the other: `left` of them are still to come, from number n on

-- one access and those after it: the first fault, if any
abbrev pub first_fault : Result ℕ Fault → Result Unit Fault → Result Unit Fault
first_fault (Ok at) rest = rest
first_fault (Err x) rest = Err x

unfoldable pub access_many : ℕ → Memory → ℕ → ℕ → Result Unit Fault
access_many zero m mask at = Ok tt
access_many (suc left) m mask at =
    cond (eqb (mask % 2) 1)
    (first_fault (access m at 4) (access_many left m (mask / 2) (plus at 4)))
    (access_many left m (mask / 2) at)

unfoldable pub stored_many : ℕ → List ℕ → ℕ → ℕ → ℕ → Memory → Storage
stored_many zero g n mask at m = storage_of m
stored_many (suc left) g n mask at m =
    cond (eqb (mask % 2) 1)
    (stored_many left g (n + 1) (mask / 2) (plus at 4) (on_storage m (stored m at Long (general g n))))
    (stored_many left g (n + 1) (mask / 2) at m)

unfoldable pub loaded_many : ℕ → Memory → ℕ → ℕ → ℕ → List ℕ → List ℕ
loaded_many zero m n mask at g = g
loaded_many (suc left) m n mask at g =
    cond (eqb (mask % 2) 1)
    (loaded_many left m (n + 1) (mask / 2) (plus at 4) (set g n (number_at m at Long)))
    (loaded_many left m (n + 1) (mask / 2) at g)
