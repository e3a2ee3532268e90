-- What a step writes. Document: "A completed step leaves .. memory that the Rust leaves", and which stores a row makes.
--
-- A step that is done leaves storage with the stores of its row (Effects), one after the other. So it changes no byte outside them, and
-- they do not overlap: each of them is found in memory after the step, its low bytes at its address. Assumes nothing.
use Rattle.std.specs.Prelude.{ℕ, zero, suc, ◌+◌, ◌*◌, ◌/◌, ◌%◌, ◌^◌, ◌≤◌, ◌<◌, ◌≡◌, refl, Bool, true, false, cond, List, [], ◌∷◌, ◌++◌, ◌⊎◌, eqb, length, get_or, set, Result, Ok, Err, None}
use Rattle.std.specs.Result.{result_and}
use Rattle.std.proofs.Common.{sym, ap, subst, ◌∙◌, ⊎_elim, inl, inr, pow-suc, mul_right_comm, mod-eq_of_lt, mod-lt, arith, length-set, get_or-set_same}
use Rattle.std.proofs.Math.Nat.{one-le-pow, div-add-mod, mul-add-mod_self_left}
use Rattle.manual.specs.declared.Cpu.{Cpu}
use Rattle.manual.specs.declared.Size.TheVariants.{Byte}
use Rattle.manual.specs.declared.Fault.{Fault}
use Rattle.manual.specs.Word.{plus}
use Rattle.manual.specs.Registers.{address_of, general}
use Rattle.manual.specs.Memory.{Storage, Memory, storage_of, value_at, store_at, access, taken, number_at}
use Rattle.manual.specs.Lent.{Lent, memory_of, lent_on, longest}
use Rattle.manual.specs.Exceptions.{set_sr, handler_sr, pc_place, frame_place}
use Rattle.block.specs.Typed.{Typed}
use Rattle.instructions.specs.Step.{step}
use Rattle.memory.specs.MemoryLaws.{length_store, byte_store, value_same}
use Rattle.demands.specs.Exact.{Values, numbered}
use Rattle.demands.specs.Accesses.{Wanted}
use Rattle.demands.specs.AccessLaws.{inside_is, byte_is, fault_number}
use Rattle.demands.specs.FirstReplies.{short_of}
use Rattle.demands.specs.Refusals.{done-is}
use Rattle.demands.specs.StepLaws.{stepped}
use Rattle.demands.specs.ValueLaws.{a7_long}
use Rattle.demands.specs.TypedLaws.{set_sr-typed, handed-typed}
use Rattle.demands.specs.EntryLaws as entry
use Rattle.demands.specs.Effects.{Effect, nothing, stores, pushes_status, stores_many, loads_many, enters, returns, Lawful, handed, Put, put, many_puts, puts_of, places, stored_all, effect_of, writes}
use Rattle.demands.specs.PartLaws.{access_all, number_or, all_both}
use Rattle.demands.specs.EffectLaws.{Performs, first_taken, vector-fits}
use Rattle.demands.specs.StepReplies.{of_effect}

-- the byte at j is in none of the stores
abbrev pub OutsideAll : List Put → ℕ → Type 0
OutsideAll [] j = Unit {0}
OutsideAll (p ∷ ps) j = ((j < p.address) ⊎ (p.address + p.count ≤ j)) × OutsideAll ps j

-- p is one of the stores
pub data Among (p : Put) : List Put → Type 0 where
  this : {ps : List Put} → Among p (p ∷ ps)
  later : {q : Put} {ps : List Put} → Among p ps → Among p (q ∷ ps)

pub record StepWrites : Type 0 where
  -- storage after a done step is storage before it with the stores of the row, one after the other
  pub stored_so : (s : Cpu) (l : Lent) → numbered (step s l) ≡ 0 → (step s l).storage ≡ stored_all l.storage (writes s (memory_of l))
  -- a done step changes no byte outside its listed stores
  pub no_other : (s : Cpu) (l : Lent) → numbered (step s l) ≡ 0 → (j : ℕ) → OutsideAll (writes s (memory_of l)) j
      → number_at (memory_of (lent_on l (step s l).storage)) j Byte ≡ number_at (memory_of l) j Byte
  -- and each of them is there: the low bytes of its value, at its address
  pub each : (s : Cpu) (l : Lent) → Values s l.storage → numbered (step s l) ≡ 0 → (p : Put) → Among p (writes s (memory_of l))
      → value_at (step s l).storage p.address p.count ≡ p.value % 256 ^ p.count

-- ---- the proofs

-- ---- what was stored is read back, its low bytes

low-bytes : (P v : ℕ) → 0 < P → v % (P * 256) ≡ v / 256 % P * 256 + v % 256
low-bytes P v some =
    let q : ℕ = v / 256 / P in
    let r : ℕ = v / 256 % P in
    let e : P * q + r ≡ v / 256 = div-add-mod (v / 256) P in
    let below : r < P = mod-lt (v / 256) some in
    let whole : v ≡ P * 256 * q + (r * 256 + v % 256) = omega (arith, mul_right_comm P 256 q) in
    ap (λ (x : ℕ). x % (P * 256)) whole ∙ mul-add-mod_self_left (P * 256) q (r * 256 + v % 256) ∙ mod-eq_of_lt (omega arith)

read_low : (b : Storage) (a n v : ℕ) → a + n ≤ length b → value_at (store_at b a n v) a n ≡ v % 256 ^ n
unfolding value_at store_at
read_low b a zero v inside = omega arith
read_low b a (suc n) v inside =
    let s : Storage = set b (a + n) (v % 256) in
    let top : value_at (store_at s a n (v / 256)) a n ≡ v / 256 % 256 ^ n = read_low s a n (v / 256) (simp length-set (omega arith)) in
    let low : get_or (store_at s a n (v / 256)) (a + n) 0 ≡ v % 256 =
    byte_store s a n (v / 256) (a + n) (inr (omega arith)) ∙ get_or-set_same b (a + n) (v % 256) 0 (omega arith)
    in
    let power : v % 256 ^ suc n ≡ v / 256 % 256 ^ n * 256 + v % 256 = ap (λ (x : ℕ). v % x) (pow-suc 256 n) ∙ low-bytes (256 ^ n) v (omega (arith, one-le-pow n 256 (omega arith))) in
    omega (arith, top, low, power)

-- ---- stores one after the other

length_all : (b : Storage) (ps : List Put) → length (stored_all b ps) ≡ length b
length_all b [] = refl
length_all b (p ∷ ps) = length_all (store_at b p.address p.count p.value) ps ∙ length_store b p.address p.count p.value

byte_all : (b : Storage) (ps : List Put) (j : ℕ) → OutsideAll ps j → get_or (stored_all b ps) j 0 ≡ get_or b j 0
byte_all b [] j out = refl
byte_all b (p ∷ ps) j out = byte_all (store_at b p.address p.count p.value) ps j out.1 ∙ byte_store b p.address p.count p.value j out.0

-- p and each of the stores are apart; each store and those after it are
abbrev Clear : Put → List Put → Type 0
Clear p [] = Unit {0}
Clear p (q ∷ qs) = ((p.address + p.count ≤ q.address) ⊎ (q.address + q.count ≤ p.address)) × Clear p qs

abbrev Apart : List Put → Type 0
Apart [] = Unit {0}
Apart (p ∷ ps) = Clear p ps × Apart ps

-- all are inside n bytes
abbrev Within : ℕ → List Put → Type 0
Within n [] = Unit {0}
Within n (p ∷ ps) = (p.address + p.count ≤ n) × Within n ps

clear-out : (p : Put) (ps : List Put) (j : ℕ) → j < p.count → Clear p ps → OutsideAll ps (p.address + j)
clear-out p [] j h c = tt
clear-out p (q ∷ qs) j h c = (⊎_elim (λ k. inl (omega arith)) (λ k. inr (omega arith)) c.0, clear-out p qs j h c.1)

there-all : (b : Storage) (ps : List Put) (p : Put) → Apart ps → Within (length b) ps → Among p ps → value_at (stored_all b ps) p.address p.count ≡ p.value % 256 ^ p.count
there-all b [] p apart within never = elim never [ ]
there-all b (p ∷ ps) p₀ apart within this =
    value_same _ (store_at b p.address p.count p.value) p.address p.count (λ j h. byte_all _ ps (p.address + j) (clear-out p ps j h apart.0))
    ∙ read_low b p.address p.count p.value within.0
there-all b (q ∷ ps) p apart within (later h) =
    there-all (store_at b q.address q.count q.value) ps p apart.1 (rw (length_store b q.address q.count q.value) within.1) h

-- ---- the stores of an effect are inside where they were done, and apart

inside-places : (m : Memory) (ps : List Put) → access_all m (places ps) ≡ Ok tt → Within (length (storage_of m)) ps
inside-places m [] h = tt
inside-places m (p ∷ ps) h =
    let both : (taken (access m p.address p.count) ≡ Ok tt) × (access_all m (places ps) ≡ Ok tt) = first_taken (access m p.address p.count) _ h in
    ((inside_is m p.address p.count).0 both.0, inside-places m ps both.1)

-- where the reads after them are too
stores-taken : (m : Memory) (x y : List Wanted) → number_or (access_all m (x ++ y)) 0 ≡ 0 → access_all m x ≡ Ok tt
stores-taken m x y h = by (access_all m x) (access_all m y) (ap (λ (z : Result Unit Fault). number_or z 0) (sym (all_both m x y)) ∙ h)
  where
    by : (x y : Result Unit Fault) → number_or (result_and x y) 0 ≡ 0 → x ≡ Ok tt
    by (Ok tt) y h = refl
    by (Err f) y h = absurd (fault_number f h)

-- all are at x or above it
abbrev From : ℕ → List Put → Type 0
From x [] = Unit {0}
From x (p ∷ ps) = (x ≤ p.address) × From x ps

from_less : (x y : ℕ) (ps : List Put) → x ≤ y → From y ps → From x ps
from_less x y [] h f = tt
from_less x y (p ∷ ps) h f = (omega (arith, f.0), from_less x y ps h f.1)

clear-from : (p : Put) (ps : List Put) → From (p.address + p.count) ps → Clear p ps
clear-from p [] f = tt
clear-from p (q ∷ qs) f = (inl f.0, clear-from p qs f.1)

plus-four : (a : ℕ) → a + 4 < 2 ^ 32 → plus a 4 ≡ a + 4
unfolding plus
plus-four a h = omega arith

-- MOVEM's longs lie one after the other
many-apart : (left : ℕ) (g : List ℕ) (n regs a k : ℕ) → k ≤ longest → Within k (many_puts left g n regs a) → From a (many_puts left g n regs a) × Apart (many_puts left g n regs a)
unfolding many_puts
many-apart zero g n regs a k short w = (tt, tt)
many-apart (suc left) g n regs a k short w =
    by (eqb (regs % 2) 1) w (λ h. many-apart left g (n + 1) (regs / 2) (plus a 4) k short h) (λ h. many-apart left g (n + 1) (regs / 2) a k short h)
  where
    rest : List Put
    rest = many_puts left g (n + 1) (regs / 2) (plus a 4)

    others : List Put
    others = many_puts left g (n + 1) (regs / 2) a

    by : (b : Bool) → Within k (cond b (put a 4 (general g n) ∷ rest) others) → (Within k rest → From (plus a 4) rest × Apart rest) → (Within k others → From a others × Apart others)
        → From a (cond b (put a 4 (general g n) ∷ rest) others) × Apart (cond b (put a 4 (general g n) ∷ rest) others)
    by true w p q =
        let e : plus a 4 ≡ a + 4 = plus-four a (omega (arith, w.0)) in
        let h : From (plus a 4) rest × Apart rest = p w.1 in
        let f : From (a + 4) rest = subst (λ (x : ℕ). From x rest) e h.0 in
        ((omega arith, from_less a (a + 4) rest (omega arith) f), (clear-from (put a 4 (general g n)) rest f, h.1))
    by false w p q = q w

-- the two longs of a frame
frame_apart : (sp pc w : ℕ) → sp < 2 ^ 32 → Apart (put (pc_place sp) 4 pc ∷ put (frame_place sp) 4 w ∷ [])
frame_apart sp pc w f = ((entry.apart sp f, tt), (tt, tt))

-- A7 in the handler
handler-sp : (s : Cpu) → Typed s → address_of (set_sr (handler_sr None s.sr) s).r 7 < 2 ^ 32
handler-sp s typed = a7_long _ (set_sr-typed (handler_sr None s.sr) s typed)

effect-apart : (s : Cpu) (m : Memory) (e : Effect) → Typed s → length (storage_of m) ≤ longest → Lawful s.pc e → Within (length (storage_of m)) (puts_of s e) → Apart (puts_of s e)
effect-apart s m nothing typed short lawful w = tt
effect-apart s m (stores a z v) typed short lawful w = (tt, tt)
effect-apart s m pushes_status typed short lawful w = (tt, tt)
effect-apart s m (stores_many regs a) typed short lawful w = (many-apart 16 s.r 0 regs a (length (storage_of m)) short w).1
effect-apart s m (loads_many regs a) typed short lawful w = tt
effect-apart s m (enters wr vector pc) typed short lawful w =
    frame_apart _ pc 0 (handler-sp (handed wr pc s) (handed-typed s wr pc typed (vector-fits lawful).move-long ((vector-fits lawful).pc-long typed.pc-long)))
effect-apart s m returns typed short lawful w = tt

-- ---- a step

module _ (s : Cpu) (l : Lent) (done : numbered (step s l) ≡ 0) where
  abbrev m : Memory
  m = memory_of l

  stored_so : (step s l).storage ≡ stored_all l.storage (writes s m)
  unfolding writes
  stored_so = (of_effect s l done).stores_so done

  no_other : (j : ℕ) → OutsideAll (writes s m) j → number_at (memory_of (lent_on l (step s l).storage)) j Byte ≡ number_at m j Byte
  no_other j out =
      byte_is (memory_of (lent_on l (step s l).storage)) j
      ∙ ap (λ (b : Storage). get_or b j 0) stored_so
      ∙ byte_all l.storage (writes s m) j out
      ∙ sym (byte_is m j)

  each : Values s l.storage → (p : Put) → Among p (writes s m) → value_at (step s l).storage p.address p.count ≡ p.value % 256 ^ p.count
  unfolding writes
  each values p among =
      let e : Performs s m (effect_of s m) (step s l) = of_effect s l done in
      let within : Within (length l.storage) (puts_of s (effect_of s m)) = inside-places m (puts_of s (effect_of s m)) (stores-taken m (places (puts_of s (effect_of s m))) _ (sym e.answers ∙ done)) in
      rw stored_so (there-all l.storage (puts_of s (effect_of s m)) p (effect-apart s m (effect_of s m) values.0 (short_of s l (stepped s l (done-is _ done)).ready) e.lawful within) within among)

pub step-writes : StepWrites
step-writes = record { stored_so = stored_so; no_other = no_other; each = λ s l values done p among. each s l done values p among }
