-- What an entry leaves, and what a return then finds: the parts of `entered` and `left`, in plain variables.
-- Assumes nothing.
use Rattle.std.specs.Prelude.{ℕ, ◌+◌, ◌*◌, ◌/◌, ◌%◌, ◌^◌, ◌≤◌, ◌<◌, ◌≡◌, Bool, cond, not, ◌&&◌, ◌⊎◌, length, get_or, Option, Some, None}
use Rattle.std.proofs.Math.Path.{refl}
use Rattle.std.proofs.Common.{sym, ap, ◌∙◌, eq-eqb, le-ltb, lt-ltb}
use Rattle.std.proofs.Math.Bool.{true, false}
use Rattle.std.specs.Bool.{beq}
use Rattle.std.proofs.lemmas.Bool.{false≢true}
use Rattle.std.proofs.Math.Logic.{inl, inr}
use native.Mathlib.Omega.{arith}
use Rattle.std.proofs.Math.ListN.{length-set}
use Rattle.std.proofs.Math.Seq.{get_or-set_same}
use Rattle.manual.specs.declared.Cpu.{Cpu}
use Rattle.manual.specs.declared.Reply.{Reply}
use Rattle.manual.specs.declared.Reply.TheVariants.{Done, OutOfRange, Masked}
use Rattle.manual.specs.declared.Size.TheVariants.{Long}
use Rattle.manual.specs.Word.{plus, minus}
use Rattle.manual.specs.Registers.{address_of, with_address, with_sr, with_other}
use Rattle.manual.specs.Memory.{Storage, Memory, storage_of, value_at, store_at, access}
use Rattle.manual.specs.Reply.{Outcome, is_done, completed, unchanged, refusal, accessing}
use Rattle.manual.specs.Admitted.{status}
use Rattle.manual.specs.Lent.{Lent, memory_of, first_refusal, checked}
use Rattle.manual.specs.Differences.{frame_bytes, vector_place}
use Rattle.manual.specs.Bits.{with_bit}
use Rattle.word.specs.BitLaws.{with_parts_lem}
use Rattle.manual.specs.Exceptions.{supervisor, two_stacks, set_sr, with_mask, handler_sr, frame_long, pc_place, frame_place, framed, handler_state, entered, return_state, returned}
use Rattle.word.specs.TestLaws.{by-lt}
use Rattle.memory.specs.MemoryLaws.{length_store, value_same, read-other, read_same}
use Rattle.demands.specs.Exact.{Ready}
use Rattle.demands.specs.AccessLaws.{here-is, load_at, Found, accessing-done}

-- ---- the frame's lower long

module _ (sp vector sr : ℕ) (v : vector < 256) (r : sr < 2 ^ 16) where
  pub long-fits : frame_long sp vector sr < 256 ^ 4
  unfolding frame_long
  long-fits = omega arith

  pub long_format : frame_long sp vector sr / 0x1000_0000 ≡ 4 + sp % 4
  unfolding frame_long
  long_format = omega arith

-- a multiple of 2 ^ 16 is above every bit of a status register
module _ (k sr : ℕ) where
  under_15 : (k * 0x1_0000 + sr) / 0x8000 % 2 ≡ sr / 0x8000 % 2
  under_15 = omega arith

  under_12 : (k * 0x1_0000 + sr) / 0x1000 % 4 ≡ sr / 0x1000 % 4
  under_12 = omega arith

  under_8 : (k * 0x1_0000 + sr) / 0x100 % 8 ≡ sr / 0x100 % 8
  under_8 = omega arith

  under_0 : (k * 0x1_0000 + sr) % 32 ≡ sr % 32
  under_0 = omega arith

  status-under : status (k * 0x1_0000 + sr) ≡ status sr
  unfolding status
  status-under = rw (under_15, under_12, under_8, under_0)

pub long-status : (sp vector sr : ℕ) → status (frame_long sp vector sr) ≡ status sr
unfolding frame_long
long-status sp vector sr =
    let e : (4 + sp % 4) * 0x1000_0000 + vector * 0x4_0000 + sr ≡ ((4 + sp % 4) * 0x1000 + vector * 4) * 0x1_0000 + sr = omega arith in
    ap status e ∙ status-under ((4 + sp % 4) * 0x1000 + vector * 4) sr

pub past_frame : (x : ℕ) → x < 4 → frame_bytes (4 + x) ≡ 8 + x
past_frame x h = simp (le-ltb (4 + x) 4 (omega arith), lt-ltb (4 + x) 8 (omega arith)) (omega arith)

-- ---- where the frame is, with A7 at sp

module _ (sp : ℕ) (f : sp < 2 ^ 32) where
  pub pc-above : plus (frame_place sp) 4 ≡ pc_place sp
  unfolding plus minus
  pc-above = omega arith

  pub sp-again : plus (frame_place sp) (8 + sp % 4) ≡ sp
  unfolding plus minus
  sp-again = omega arith

  pub low_byte : (j : ℕ) → j < 4 → plus (frame_place sp) j ≡ frame_place sp + j
  unfolding plus minus
  low_byte j h = omega arith

  pub high_byte : (j : ℕ) → j < 4 → plus (frame_place sp) (4 + j) ≡ pc_place sp + j
  unfolding plus minus
  high_byte j h = omega arith

  pub apart : (pc_place sp + 4 ≤ frame_place sp) ⊎ (frame_place sp + 4 ≤ pc_place sp)
  unfolding minus
  apart = by-lt (frame_place sp) (pc_place sp) (λ h. inr (omega arith)) (λ h. inl (omega arith))

-- ---- S in a handler

s_of : (a b c d : ℕ) → (a % 2 * 0x8000 + b % 4 * 0x1000 + c % 8 * 0x100 + d % 32) / 0x2000 % 2 ≡ b % 4 / 2
s_of a b c d = omega arith

s-status : (v : ℕ) → supervisor (status v) ≡ supervisor v
unfolding status
s-status v =
    let e : v / 0x1000 % 4 / 2 ≡ v / 0x2000 % 2 = omega arith in
    rw (s_of (v / 0x8000) (v / 0x1000) (v / 0x100) v, e)

s_set : (v : ℕ) → with_bit 13 true v / 0x2000 % 2 ≡ 1
s_set v = omega (arith, with_parts_lem 13 v true)

under-mask : (v level : ℕ) → with_mask v (level % 8 * 0x100) / 0x2000 % 2 ≡ v / 0x2000 % 2
under-mask v level = omega arith

s_handling : (level : Option ℕ) (sr : ℕ) → handler_sr level sr / 0x2000 % 2 ≡ 1
unfolding handler_sr
s_handling None sr = s_set _
s_handling (Some level) sr = under-mask _ level ∙ s_set _

pub handler-s : (level : Option ℕ) (sr : ℕ) → supervisor (status (handler_sr level sr)) ≡ true
handler-s level sr = s-status (handler_sr level sr) ∙ eq-eqb _ 1 (s_handling level sr)

-- ---- the stack pointers after a new status register: in each other's place, or not

abbrev pub swaps : ℕ → Cpu → Bool
swaps v s = two_stacks s && not (beq (supervisor (status v)) (supervisor s.sr))

abbrev pub after : Bool → ℕ → Cpu → Cpu
after b v s = cond b (with_sr v (with_other (address_of s.r 7) (with_address 7 s.other s))) (with_sr v s)

module _ (v : ℕ) (s : Cpu) where
  pub set_sr-is : set_sr v s ≡ after (swaps v s) (status v) s
  unfolding set_sr
  set_sr-is = refl

  pub sr-after : (b : Bool) → (after b v s).sr ≡ v
  unfolding with_sr
  sr-after true = refl
  sr-after false = refl

  pub cacr-after : (b : Bool) → (after b v s).cacr ≡ s.cacr
  unfolding with_sr with_other with_address
  cacr-after true = refl
  cacr-after false = refl

  pub other_after : (b : Bool) → (after b v s).other ≡ cond b (address_of s.r 7) s.other
  unfolding with_sr with_other
  other_after true = refl
  other_after false = refl

  pub long_after : (b : Bool) → length (after b v s).r ≡ length s.r
  unfolding with_sr with_other with_address
  long_after true = simp length-set
  long_after false = refl

  pub a7_after_lem : (b : Bool) → length s.r ≡ 16 → address_of (after b v s).r 7 ≡ cond b s.other (address_of s.r 7)
  unfolding with_sr with_other with_address address_of
  a7_after_lem true n = get_or-set_same s.r 15 s.other 0 (omega arith)
  a7_after_lem false n = refl

pub a7_with : (v : ℕ) (s : Cpu) → length s.r ≡ 16 → address_of (with_address 7 v s).r 7 ≡ v
unfolding with_address address_of
a7_with v s n = get_or-set_same s.r 15 v 0 (omega arith)

-- two numbers that change places, or not, and do so again at the same test, are where they were
pub twice : (b : Bool) (x y : ℕ) → cond b (cond b x y) (cond b y x) ≡ x
twice true x y = refl
twice false x y = refl

-- into the handler and back: the same test
pub swaps-back : (two s : Bool) → (two && not (beq s true)) ≡ (two && not (beq true s))
swaps-back true true = refl
swaps-back true false = refl
swaps-back false s = refl

-- ---- the two longs, read back from equal frame bytes

module _ (m m₂ : Storage) (low high pc w : ℕ)
    (la : (j : ℕ) → j < 4 → plus low j ≡ low + j) (ha : (j : ℕ) → j < 4 → plus low (4 + j) ≡ high + j)
    (far : (high + 4 ≤ low) ⊎ (low + 4 ≤ high)) (hi : high + 4 ≤ length m) (lo : low + 4 ≤ length m)
    (frame : (j : ℕ) → j < 8 → get_or m₂ (plus low j) 0 ≡ get_or (store_at (store_at m high 4 pc) low 4 w) (plus low j) 0) where
  pub long-back : w < 256 ^ 4 → value_at m₂ low 4 ≡ w
  long-back f =
      value_same m₂ (store_at (store_at m high 4 pc) low 4 w) low 4 (λ j h. rw (la j h) at (frame j (omega arith)))
      ∙ read_same (store_at m high 4 pc) low 4 w (simp length_store lo) f

  pub pc-back : pc < 256 ^ 4 → value_at m₂ high 4 ≡ pc
  pc-back f =
      value_same m₂ (store_at (store_at m high 4 pc) low 4 w) high 4 (λ j h. rw (ha j h) at (frame (4 + j) (omega arith)))
      ∙ read-other (store_at m high 4 pc) low 4 w high 4 far
      ∙ read_same m high 4 pc hi f

-- ---- an entry that was done

-- three accesses of a long that were done are inside, and lie at their addresses
three : (given : Cpu) (m : Memory) (a b c : ℕ) (f : ℕ → ℕ → ℕ → Outcome)
    → let o : Outcome = accessing given m (access m a 4) λ x. accessing given m (access m b 4) λ y. accessing given m (access m c 4) λ z. f x y z in
    o.stepped.reply ≡ Done → ((a + 4 ≤ length (storage_of m)) × (b + 4 ≤ length (storage_of m))) × (o ≡ f a b c)
three given m a b c f e =
    let one : Found (access m a 4) _ _ = accessing-done given m (access m a 4) _ e in
    let two : Found (access m b 4) _ _ = accessing-done given m (access m b 4) _ (rw one.same at e) in
    let last : Found (access m c 4) _ _ = accessing-done given m (access m c 4) _ (rw (one.same, two.same) at e) in
    let ha : (one.place ≡ a) × (a + 4 ≤ length (storage_of m)) = here-is m a 4 one.place one.here in
    let hb : (two.place ≡ b) × (b + 4 ≤ length (storage_of m)) = here-is m b 4 two.place two.here in
    let hc : last.place ≡ c = (here-is m c 4 last.place last.here).0 in
    let same : f one.place two.place last.place ≡ f a b c = cc (ha.0, hb.0, hc) in
    ((ha.1, hb.1), one.same ∙ two.same ∙ last.same ∙ same)

-- storage with the frame of an entry with A7 at sp
abbrev pub frame_on : Storage → ℕ → ℕ → ℕ → ℕ → Storage
frame_on b sp vector sr pc = framed b (pc_place sp) (frame_place sp) pc (frame_long sp vector sr)

-- what it did, t being the state with the handler's status register, and sp its A7
pub record Went (s : Cpu) (m : Memory) (vector pc : ℕ) (t : Cpu) (sp : ℕ) (o : Outcome) : Type 0 where
  pub hi : pc_place sp + 4 ≤ length (storage_of m)
  pub lo : frame_place sp + 4 ≤ length (storage_of m)
  pub state : o.stepped.cpu ≡ handler_state t (frame_place sp) (value_at o.storage (vector_place s.vbr vector) 4)
  pub storage : o.storage ≡ frame_on (storage_of m) sp vector s.sr pc

pub went : (given s : Cpu) (level : Option ℕ) (vector pc : ℕ) (m : Memory) → (entered given s level vector pc m).stepped.reply ≡ Done
    → let t : Cpu = set_sr (handler_sr level s.sr) s in
    Went s m vector pc t (address_of t.r 7) (entered given s level vector pc m)
unfolding entered
went given s level vector pc m e =
    let t : Cpu = set_sr (handler_sr level s.sr) s in
    let sp : ℕ = address_of t.r 7 in
    let b : ℕ → ℕ → Storage = λ high low. framed (storage_of m) high low pc (frame_long sp vector s.sr) in
    let all : ℕ → ℕ → ℕ → Outcome = λ high low table. completed (handler_state t (frame_place sp) (value_at (b high low) table 4)) vector (b high low) in
    let place : ℕ = vector_place s.vbr vector in
    let h : ((pc_place sp + 4 ≤ length (storage_of m)) × (frame_place sp + 4 ≤ length (storage_of m))) × (entered given s level vector pc m ≡ all (pc_place sp) (frame_place sp) place) =
    three given m (pc_place sp) (frame_place sp) place all e
    in
    record { hi = h.0.0; lo = h.0.1; state = rw h.1; storage = rw h.1 }

-- ---- a return whose two longs are known

pub left_in : (given s : Cpu) (m : Memory) (low high w pc : ℕ) → address_of s.r 7 ≡ low → plus low 4 ≡ high
    → low + 4 ≤ length (storage_of m) → high + 4 ≤ length (storage_of m) → value_at (storage_of m) low 4 ≡ w → value_at (storage_of m) high 4 ≡ pc
    → returned given s m ≡ completed (return_state s low w pc) 0 (storage_of m)
unfolding returned
left_in given s m low high w pc es eh lo hi ew ep = rw (es, eh, load_at m low Long lo, load_at m high Long hi, ew, ep)

-- ---- a call that was done passed its tests

pub not_done : (n : Reply) → (n ≡ Done → ⊥) → (given : Cpu) (m : Memory) → (unchanged given n m).stepped.reply ≡ Done → ⊥
unfolding refusal
not_done n h given m e = h e

pub out_of_range_not : OutOfRange ≡ Done → ⊥
out_of_range_not e = cc

pub masked-not : Masked ≡ Done → ⊥
masked-not e = cc

pub record Open (s : Cpu) (l : Lent) (o : Outcome) (c : Outcome) : Type 0 where
  pub ready : Ready s l
  pub same : c ≡ o

-- n is the reply of the first test that fails
open_by : (b : Bool) (n : Reply) (s : Cpu) (m : Memory) (o : Outcome) → is_done n ≡ b → (cond b o (unchanged s n m)).stepped.reply ≡ Done
    → (is_done n ≡ true) × (cond b o (unchanged s n m) ≡ o)
unfolding refusal
open_by true n s m o d e = (d, refl)
open_by false n s m o d e = absurd (false≢true (sym d ∙ ap is_done e))

pub opened : (s : Cpu) (l : Lent) (o : Outcome) → (checked s l o).stepped.reply ≡ Done → Open s l o (checked s l o)
opened s l o e =
    let n : Reply = first_refusal s l in
    let h : (is_done n ≡ true) × (checked s l o ≡ o) = open_by (is_done n) n s (memory_of l) o refl e in
    record { ready = h.0; same = h.1 }

-- and one that passes them goes on
pub goes_on : (s : Cpu) (l : Lent) (o : Outcome) → Ready s l → checked s l o ≡ o
goes_on s l o ready = rw ready

-- a test on the way to an entry
pub passed : (b : Bool) (n : Reply) → (n ≡ Done → ⊥) → (s : Cpu) (m : Memory) (o : Outcome)
    → (cond b o (unchanged s n m)).stepped.reply ≡ Done → cond b o (unchanged s n m) ≡ o
passed true n h s m o e = refl
passed false n h s m o e = absurd (not_done n h s m e)

pub not-passed : (b : Bool) (n : Reply) → (n ≡ Done → ⊥) → (s : Cpu) (m : Memory) (o : Outcome)
    → (cond b (unchanged s n m) o).stepped.reply ≡ Done → cond b (unchanged s n m) o ≡ o
not-passed true n h s m o e = absurd (not_done n h s m e)
not-passed false n h s m o e = refl
