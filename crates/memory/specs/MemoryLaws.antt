-- The laws of storing and reading back, each once over the size, and of an access.
-- Assumes nothing.
use Rattle.std.specs.Prelude.{Result, Ok, Err}
use Rattle.std.specs.Prelude.{◌≡◌, ℕ, zero, suc, ◌+◌, ◌-◌, ◌*◌, ◌/◌, ◌%◌, ◌^◌, ◌<◌, ◌≤◌, Bool, true, false, cond, ◌⊎◌, List, length, set, slice_index, slice_index_or, slice_set, refl}
use Rattle.std.proofs.Common.{sym, ◌∙◌, ⊎_elim, inl, inr, arith, sub-one, add-zero, add_assoc, le-leb, leb-true, length-set, get_or-set_same, get_or-set_other}
use Rattle.std.proofs.Math.Nat.{pow-succ', div-div-eq-div-mul}
use Rattle.std.proofs.lemmas.Bool.{lt-leb}
use Rattle.manual.specs.declared.Size.{Size}
use Rattle.manual.specs.declared.Fault.{Fault}
use Rattle.manual.specs.declared.Fault.TheVariants.{Outside}
use Rattle.manual.specs.Word.{bytes}
use Rattle.manual.specs.Memory.{Storage, Memory, inside, value_at, store_at, access, taken, stored_in, storing, stored}

-- ---- one number

pub length_store : (m : Storage) (a n v : ℕ) → length (store_at m a n v) ≡ length m
unfolding store_at
length_store m a zero v = refl
length_store m a (suc n) v = length_store (slice_set m (a + n) (v % 256)) a n (v / 256) ∙ simp length-set

-- a byte outside of what is stored is as it was
pub byte_store : (m : Storage) (a n v j : ℕ) → (j < a) ⊎ (a + n ≤ j) → slice_index (store_at m a n v) j ≡ slice_index m j
unfolding store_at
byte_store m a zero v j out = refl
byte_store m a (suc n) v j out =
    byte_store (slice_set m (a + n) (v % 256)) a n (v / 256) j (⊎_elim (λ p. inl p) (λ p. inr (omega arith)) out)
    ∙ get_or-set_other m (a + n) j (v % 256) 0 (λ e. ⊎_elim (λ p. omega arith) (λ p. omega arith) out)

-- what is read goes by the bytes read alone
pub value_same : (m m' : Storage) (a n : ℕ) → ((j : ℕ) → j < n → slice_index m (a + j) ≡ slice_index m' (a + j)) → value_at m a n ≡ value_at m' a n
unfolding value_at
value_same m m' a zero same = refl
value_same m m' a (suc n) same =
    let i : value_at m a n ≡ value_at m' a n = value_same m m' a n (λ j p. same j (omega arith)) in
    let l : slice_index_or m (a + n) 0 ≡ slice_index_or m' (a + n) 0 = same n (omega arith) in
    cc

-- what is read where nothing was stored is as it was
pub read-other : (m : Storage) (a n v b k : ℕ) → (b + k ≤ a) ⊎ (a + n ≤ b) → value_at (store_at m a n v) b k ≡ value_at m b k
read-other m a n v b k apart =
    value_same (store_at m a n v) m b k
    (λ j p. byte_store m a n v (b + j) (⊎_elim (λ q. inl (omega arith)) (λ q. inr (omega arith)) apart))

-- what was stored is read back
pub read_same : (m : Storage) (a n v : ℕ) → a + n ≤ length m → v < 256 ^ n → value_at (store_at m a n v) a n ≡ v
unfolding value_at store_at
read_same m a zero v inside small = omega arith
read_same m a (suc n) v inside small =
    let s : List ℕ = set m (a + n) (v % 256) in
    let top : value_at (store_at s a n (v / 256)) a n ≡ v / 256 =
    read_same s a n (v / 256) (simp length-set (omega arith)) (omega (arith, pow-succ' 256 n))
    in
    let low : slice_index_or (store_at s a n (v / 256)) (a + n) 0 ≡ v % 256 =
    byte_store s a n (v / 256) (a + n) (inr (omega arith)) ∙ get_or-set_same m (a + n) (v % 256) 0 (omega arith)
    in
    omega (arith, top, low)

-- n bytes are a number below 256 ^ n
pub value_lt : (m : Storage) (a n : ℕ) → ((j : ℕ) → slice_index m j < 256) → value_at m a n < 256 ^ n
unfolding value_at
value_lt m a zero bytes = omega arith
value_lt m a (suc n) bytes = omega (arith, value_lt m a n bytes, bytes (a + n), pow-succ' 256 n)

-- one byte of a store, in a loop's k and k - 1
pub store_step : (m : Storage) (a k v : ℕ) → 0 < k → store_at m a k v ≡ store_at (slice_set m (a + (k - 1)) (v % 256)) a (k - 1) (v / 256)
unfolding store_at
store_step m a zero v h = absurd (omega arith)
store_step m a (suc n) v h = rw sub-one

-- ---- the sizes

pub value-one : (m : Storage) (a : ℕ) → value_at m a 1 ≡ slice_index m a
unfolding value_at
value-one m a = rw add-zero (omega arith)

pub value_two : (m : Storage) (a : ℕ) → value_at m a 2 ≡ slice_index m a * 256 + slice_index m (a + 1)
unfolding value_at
value_two m a = rw add-zero (omega arith)

pub value-four : (m : Storage) (a : ℕ) → value_at m a 4 ≡ value_at m a 2 * 0x1_0000 + value_at m (a + 2) 2
unfolding value_at
value-four m a = simp (add-zero, add_assoc) (omega arith)

pub value-bytes : (m : Storage) (a : ℕ)
    → value_at m a 4 ≡ slice_index m (a + 0) * 0x100_0000 + slice_index m (a + 1) * 0x1_0000 + slice_index m (a + 2) * 0x100 + slice_index m (a + 3)
unfolding value_at
value-bytes m a = omega arith

pub store-one : (m : Storage) (a v : ℕ) → store_at m a 1 v ≡ slice_set m a (v % 256)
unfolding store_at
store-one m a v = rw add-zero

pub store_two : (m : Storage) (a v : ℕ) → store_at m a 2 v ≡ slice_set (slice_set m (a + 1) (v % 256)) a (v / 256 % 256)
unfolding store_at
store_two m a v = rw add-zero

-- a long byte by byte, the lowest first
pub store_bytes : (m : Storage) (a v : ℕ)
    → store_at m a 4 v ≡ slice_set (slice_set (slice_set (slice_set m (a + 3) (v % 256)) (a + 2) (v / 256 % 256)) (a + 1) (v / 0x1_0000 % 256)) a (v / 0x100_0000 % 256)
unfolding store_at
store_bytes m a v = simp (add-zero, div-div-eq-div-mul)

pub store-four : (m : Storage) (a v : ℕ) → store_at m a 4 v ≡ store_at (store_at m (a + 2) 2 v) a 2 (v / 0x1_0000)
unfolding store_at
store-four m a v = simp (add-zero, add_assoc, div-div-eq-div-mul)

-- ---- an access, which goes by the length of storage alone

pub is-here : (m : Memory) (a n : ℕ) → a + n ≤ length m → access m a n ≡ Ok a
unfolding access
is-here m a n i = rw (le-leb _ _ i)

pub is-not : (m : Memory) (a n : ℕ) → length m < a + n → access m a n ≡ Err Outside
unfolding access
is-not m a n o = rw (lt-leb _ _ o)

-- where it lies, its bytes are inside
pub here-inside : (m : Memory) (a n p : ℕ) (x : Result ℕ Fault) → x ≡ Ok p → x ≡ access m a n → p + n ≤ length m
unfolding access
here-inside m a n p x h is = by (inside m a n) (λ e. e) (sym h ∙ is)
  where
    by : (b : Bool) → (b ≡ true → inside m a n ≡ true) → Ok p ≡ cond b (Ok a) (Err Outside) → p + n ≤ length m
    by true t e = let q : p ≡ a = cc in rw q (leb-true _ _ (t refl))
    by false t e = let z : ◌≡◌ {A = ℕ} 0 1 = cc in absurd (omega arith)

pub length_stored : (m : Memory) (a : ℕ) (z : Size) (v : ℕ) → length (stored m a z v) ≡ length m
unfolding stored
length_stored m a z v = by (access m a (bytes z))
  where
    by : (x : Result ℕ Fault) → length (stored_in m z v x) ≡ length m
    by (Ok at) = length_store m at (bytes z) v
    by (Err x) = refl

-- a store that is refused stores nothing
pub not-stored : (m : Memory) (a : ℕ) (z : Size) (v : ℕ) (r : Result Unit Fault) (f : Fault) → r ≡ storing m a z → r ≡ Err f → stored m a z v ≡ m
unfolding storing stored
not-stored m a z v r f is h = by (access m a (bytes z)) (sym h ∙ is)
  where
    by : (x : Result ℕ Fault) → Err f ≡ taken x → stored_in m z v x ≡ m
    by (Ok at) e = let q : ◌≡◌ {A = ℕ} 0 1 = cc in absurd (omega arith)
    by (Err x) e = refl
