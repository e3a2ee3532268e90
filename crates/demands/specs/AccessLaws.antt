-- What an access and a load answer, and what goes by them. The laws that look into memory, at the length of storage and at where an
-- address lies in it, stand here. Assumes nothing.
use Rattle.std.specs.Prelude.{ℕ, ◌+◌, ◌≤◌, ◌<◌, ◌≡◌, ◌↔◌, length, get_or, Result, Ok, Err}
use Rattle.std.proofs.Math.Path.{refl}
use Rattle.std.proofs.Common.{sym, ap, ◌∙◌}
use native.Mathlib.Omega.{arith}
use Rattle.std.proofs.Math.ListN.{get_or-eq_default}
use Rattle.manual.specs.declared.Cpu.{Cpu}
use Rattle.manual.specs.declared.Size.{Size}
use Rattle.manual.specs.declared.Size.TheVariants.{Byte, Word}
use Rattle.manual.specs.declared.Fault.{Fault}
use Rattle.manual.specs.declared.Fault.TheVariants.{Outside as Out}
use Rattle.manual.specs.declared.Reply.TheVariants.{Done}
use Rattle.manual.specs.Word.{bytes}
use Rattle.manual.specs.Memory.{Memory, storage_of, value_at, access, taken, found, load, number_in, number_at}
use Rattle.manual.specs.Reply.{number_of, Outcome, unchanged, refusal, fault_reply, accessing, loading, taking}
use Rattle.word.specs.TestLaws.{by-lt}
use Rattle.memory.specs.MemoryLaws.{is-here, is-not, value-one, value_lt}
use Rattle.demands.specs.Accesses.{Inside, Outside}
use Rattle.demands.specs.Exact.{Bytes}

-- ---- an access goes by the length of storage, and lies at its address

pub here_or_not : (p : ℕ) (x : Fault) → Ok p ≡ Err x → ⊥
here_or_not p x e = cc

pub taken_or_not : (x : Fault) → ◌≡◌ {A = Result Unit Fault} (Err x) (Ok tt) → ⊥
taken_or_not x e = cc

module _ (m : Memory) (a n : ℕ) where
  pub inside_is : Inside m a n ↔ (a + n ≤ length (storage_of m))
  inside_is = (
    λ h. by-lt (length (storage_of m)) (a + n) (λ o. absurd (taken_or_not Out (sym (ap taken (is-not m a n o)) ∙ h))) (λ l. l),
    λ l. ap taken (is-here m a n l),
  )

  pub outside-is : Outside m a n ↔ (length (storage_of m) < a + n)
  outside-is = (λ h. by-lt (length (storage_of m)) (a + n) (λ o. o) (λ l. absurd (here_or_not a Out (sym (is-here m a n l) ∙ h))), is-not m a n)

  pub here-is : (p : ℕ) → access m a n ≡ Ok p → (p ≡ a) × (a + n ≤ length (storage_of m))
  here-is p h =
      by-lt (length (storage_of m)) (a + n)
      (λ o. absurd (here_or_not p Out (sym h ∙ is-not m a n o)))
      (λ l. (let e : Ok p ≡ Ok a = sym h ∙ is-here m a n l in cc, l))

-- ---- what a load finds

module _ (m : Memory) (a : ℕ) where
  pub load_at : (z : Size) → a + bytes z ≤ length (storage_of m) → load m a z ≡ Ok (value_at (storage_of m) a (bytes z))
  unfolding load
  load_at z l = rw (is-here m a (bytes z) l)

  pub load_inside : (z : Size) → Inside m a (bytes z) → load m a z ≡ Ok (number_at m a z)
  unfolding load
  load_inside z = by (access m a (bytes z))
    where
      by : (x : Result ℕ Fault) → taken x ≡ Ok tt → found (storage_of m) z x ≡ Ok (number_in (found (storage_of m) z x))
      by (Ok at) h = refl
      by (Err x) h = absurd (taken_or_not x h)

  pub load-not : (z : Size) (x : Fault) → access m a (bytes z) ≡ Err x → load m a z ≡ Err x
  unfolding load
  load-not z x h = rw h

  -- one byte is that of storage, and past its end 0
  pub byte_is : number_at m a Byte ≡ get_or (storage_of m) a 0
  unfolding load
  byte_is =
      by-lt (length (storage_of m)) (a + 1)
      (λ o. rw (is-not m a 1 o) (sym (get_or-eq_default (storage_of m) 0 (omega arith))))
      (λ l. rw (is-here m a 1 l) (value-one (storage_of m) a))

  pub word_lt : Bytes (storage_of m) → number_at m a Word < 0x1_0000
  unfolding load
  word_lt all = by (access m a 2)
    where
      by : (x : Result ℕ Fault) → number_in (found (storage_of m) Word x) < 0x1_0000
      by (Ok at) = value_lt (storage_of m) at 2 all
      by (Err x) = omega arith

-- ---- what holds of a refusal with any fault, and of what goes on, holds of what goes by an access

module _ (P : Outcome → Type 0) (given : Cpu) (m : Memory) (refused : (x : Fault) → P (unchanged given (fault_reply x) m)) where
  pub accessing-all : (x : Result ℕ Fault) (f : ℕ → Outcome) → ((at : ℕ) → P (f at)) → P (accessing given m x f)
  accessing-all (Ok at) f h = h at
  accessing-all (Err x) f h = refused x

  pub loading-all : (x : Result ℕ Fault) (f : ℕ → Outcome) → ((v : ℕ) → P (f v)) → P (loading given m x f)
  loading-all (Ok v) f h = h v
  loading-all (Err x) f h = refused x

  pub taking-all : (x : Result Unit Fault) (o : Outcome) → P o → P (taking given m x o)
  taking-all (Ok tt) o h = h
  taking-all (Err x) o h = refused x

-- ---- and what was done found its place

pub fault_number : (x : Fault) → number_of (fault_reply x) ≡ 0 → ⊥
fault_number Out e = omega arith

pub fault_not : (x : Fault) → fault_reply x ≡ Done → ⊥
fault_not x e = fault_number x (ap number_of e)

pub record Found (x : Result ℕ Fault) (f : ℕ → Outcome) (o : Outcome) : Type 0 where
  pub place : ℕ
  pub here : x ≡ Ok place
  pub same : o ≡ f place

pub accessing-done : (given : Cpu) (m : Memory) (x : Result ℕ Fault) (f : ℕ → Outcome) → (accessing given m x f).stepped.reply ≡ Done → Found x f (accessing given m x f)
unfolding refusal
accessing-done given m (Ok at) f e = record { place = at; here = refl; same = refl }
accessing-done given m (Err x) f e = absurd (fault_not x e)
