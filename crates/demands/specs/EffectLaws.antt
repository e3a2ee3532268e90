-- What a change that has an effect does where it is performed: its accesses are those of the effect, and done, its vector and its stores
-- are the effect's. Assumes nothing.
use Prim.Native.Nat.{ℕ, zero, suc, ◌+◌, ◌/◌, ◌%◌, ◌^◌, ◌<◌}
use Rattle.std.specs.Prelude.{◌≡◌, refl, Bool, true, false, cond, eqb, length, Result, Ok, Err, None}
use Rattle.std.proofs.Common.{sym, ◌∙◌, arith}
use Rattle.std.proofs.Math.Path.{ap, subst}
use Rattle.std.proofs.lemmas.Bool.{false≢true}
use mathlib.Core.List.{List, ◌∷◌, ◌++◌, append-nil}
use Rattle.manual.specs.declared.Fault.{Fault}
use Rattle.manual.specs.declared.Cpu.{Cpu}
use Rattle.manual.specs.declared.Size.{Size}
use Rattle.manual.specs.declared.Size.TheVariants.{Long}
use Rattle.manual.specs.declared.Write.{Write}
use Rattle.manual.specs.declared.Action.{Action}
use Rattle.manual.specs.declared.Action.TheVariants.{Nothing, Store, StoreMany, LoadMany, Enter, Return, Status, Stop, PushStatus, Halt, SetOther, Accumulate, SetAcc, SetExt, SetMacsr, SetMask, CopyAcc, ClearAcc, MoveControl, Refuse}
use Rattle.manual.specs.declared.Change.{Change}
use Rattle.manual.specs.Word.{bytes, plus, minus}
use Rattle.manual.specs.Registers.{address_of, general, no_write, written, with_parts, with_pc, applied}
use Rattle.manual.specs.Memory.{Storage, Memory, storage_of, on_storage, store_at, access, taken, load, stored_in, storing, stored, first_fault, access_many, stored_many}
use Rattle.manual.specs.Reply.{Outcome, completed, refusal, taking}
use Rattle.manual.specs.Change.{acting, enter_after}
use Rattle.manual.specs.Differences.{vector_place}
use Rattle.manual.specs.Exceptions.{set_sr, handler_sr, pc_place, frame_place, entered, returned}
use Rattle.instructions.specs.Perform.{status_pushed, act, perform}
use Rattle.word.specs.WordLaws.{plus-below}
use Rattle.memory.specs.MemoryLaws.{length_stored}
use Rattle.demands.specs.Exact.{numbered}
use Rattle.demands.specs.Accesses.{Wanted, wanted, many_longs}
use Rattle.demands.specs.AccessLaws.{taken_or_not, fault_number, here-is, accessing-all, loading-all}
use Rattle.demands.specs.EntryLaws as entry
use Rattle.demands.specs.StepLaws.{coded_kept, perform-acting}
use Rattle.demands.specs.Refusals.{done-is}
use Rattle.demands.specs.Effects.{Effect, nothing, stores, pushes_status, stores_many, loads_many, enters, returns, Vector, illegal-word, violation, zero_divide_lem, line-a, line_f_lem, trapped, Lawful, handed, Put, put, many_puts, puts_of, reads_of, places, stored_all, vector_of}
use Rattle.demands.specs.PartLaws.{quiet, Does, does-nothing, does-store, does-push, does_store_many, does_load_many, does-enter, does-return}
use Rattle.demands.specs.ReplyLaws as replies

-- an entry is `entered` from the registers after the operand's move
abbrev pub EntersBy : Cpu → Memory → Outcome → Effect → Type 0
EntersBy s m o nothing = Unit {0}
EntersBy s m o (stores a z v) = Unit {0}
EntersBy s m o pushes_status = Unit {0}
EntersBy s m o (stores_many regs a) = Unit {0}
EntersBy s m o (loads_many regs a) = Unit {0}
EntersBy s m o (enters w vector pc) = o ≡ entered s (handed w pc s) None vector pc m
EntersBy s m o returns = Unit {0}

-- the outcome is that of an effect on the state s and the memory m
pub record Performs (s : Cpu) (m : Memory) (e : Effect) (o : Outcome) : Type 0 where
  pub answers : replies.Answers m (places (puts_of s e) ++ reads_of s e) o
  pub says : numbered o ≡ 0 → o.stepped.vector ≡ vector_of e
  pub stores_so : numbered o ≡ 0 → o.storage ≡ stored_all (storage_of m) (puts_of s e)
  pub lawful : Lawful s.pc e
  pub enters-by : EntersBy s m o e

-- ---- the numbers of an entry fit

pub record VectorFits (at : ℕ) (w : Write) (vector pc : ℕ) : Type 0 where
  pub small : vector < 256
  pub move-long : w.value < 2 ^ 32
  pub pc-long : at < 2 ^ 32 → pc < 2 ^ 32

pub vector-fits : {at : ℕ} {w : Write} {vector pc : ℕ} → Vector at w vector pc → VectorFits at w vector pc
unfolding no_write
vector-fits illegal-word = record { small = omega arith; move-long = omega arith; pc-long = λ h. h }
vector-fits (violation v) = record { small = omega arith; move-long = v; pc-long = λ h. h }
vector-fits (zero_divide_lem v next) = record { small = omega arith; move-long = v; pc-long = λ h. next }
vector-fits (line-a v) = record { small = omega arith; move-long = v; pc-long = λ h. h }
vector-fits line_f_lem = record { small = omega arith; move-long = omega arith; pc-long = λ h. h }
vector-fits {at = at} (trapped n) = record { small = omega arith; move-long = omega arith; pc-long = λ h. plus-below at 2 }

-- ---- an action that does nothing to memory

record Quiet (m : Memory) (o : Outcome) : Type 0 where
  number : numbered o ≡ 0
  vector : o.stepped.vector ≡ 0
  same : o.storage ≡ storage_of m

quiet-act : (given s : Cpu) (m : Memory) (a : Action) → quiet a ≡ true → Quiet m (act given s a m)
quiet-act given s m Nothing h = record { number = refl; vector = refl; same = refl }
quiet-act given s m (Store a z v) h = absurd (false≢true h)
quiet-act given s m (StoreMany regs a) h = absurd (false≢true h)
quiet-act given s m (LoadMany regs a) h = absurd (false≢true h)
quiet-act given s m (Enter vector pc) h = absurd (false≢true h)
quiet-act given s m Return h = absurd (false≢true h)
quiet-act given s m (Status v) h = record { number = refl; vector = refl; same = refl }
quiet-act given s m (Stop v) h = record { number = refl; vector = refl; same = refl }
quiet-act given s m (PushStatus v) h = absurd (false≢true h)
quiet-act given s m Halt h = record { number = refl; vector = refl; same = refl }
quiet-act given s m (SetOther v) h = record { number = refl; vector = refl; same = refl }
quiet-act given s m (Accumulate i scale sub x y) h = record { number = refl; vector = refl; same = refl }
quiet-act given s m (SetAcc i v) h = record { number = refl; vector = refl; same = refl }
quiet-act given s m (SetExt i v) h = record { number = refl; vector = refl; same = refl }
quiet-act given s m (SetMacsr v) h = record { number = refl; vector = refl; same = refl }
quiet-act given s m (SetMask v) h = record { number = refl; vector = refl; same = refl }
quiet-act given s m (CopyAcc from to) h = record { number = refl; vector = refl; same = refl }
quiet-act given s m (ClearAcc i) h = record { number = refl; vector = refl; same = refl }
quiet-act given s m (MoveControl writes c n) h = record { number = refl; vector = refl; same = refl }
quiet-act given s m (Refuse n) h = absurd (false≢true h)

-- ---- what is done where memory took it

was_taken : (given : Cpu) (m : Memory) (x : Result Unit Fault) (o : Outcome) → numbered (taking given m x o) ≡ 0 → x ≡ Ok tt
unfolding refusal
was_taken given m (Ok tt) o h = refl
was_taken given m (Err f) o h = absurd (fault_number f h)

taken_so : (given : Cpu) (m : Memory) (x : Result Unit Fault) (o : Outcome) → numbered (taking given m x o) ≡ 0 → taking given m x o ≡ o
taken_so given m x o h = rw (was_taken given m x o h)

-- ---- stores

-- a store that memory takes lies at its address
taken-stored : (m : Memory) (a : ℕ) (z : Size) (v : ℕ) → storing m a z ≡ Ok tt → stored m a z v ≡ store_at (storage_of m) a (bytes z) v
unfolding storing stored
taken-stored m a z v = by (access m a (bytes z)) refl
  where
    by : (x : Result ℕ Fault) → access m a (bytes z) ≡ x → taken x ≡ Ok tt → stored_in (storage_of m) z v x ≡ store_at (storage_of m) a (bytes z) v
    by (Ok p) i h = ap (λ (q : ℕ). store_at (storage_of m) q (bytes z) v) (here-is m a (bytes z) p i).0
    by (Err x) i h = absurd (taken_or_not x h)

storing-is : (m : Memory) (a : ℕ) (z : Size) → storing m a z ≡ taken (access m a (bytes z))
unfolding storing
storing-is m a z = refl

-- one number
module _ (s t : Cpu) (m : Memory) (a : ℕ) (z : Size) (v : ℕ) where
  abbrev storing_it : Outcome
  storing_it = taking s m (storing m a z) (completed t 0 (stored m a z v))

  store-says : numbered storing_it ≡ 0 → storing_it.stepped.vector ≡ 0
  store-says h = ap (λ (o : Outcome). o.stepped.vector) (taken_so s m (storing m a z) (completed t 0 (stored m a z v)) h)

  store_lies : numbered storing_it ≡ 0 → storing_it.storage ≡ store_at (storage_of m) a (bytes z) v
  store_lies h =
      ap (λ (o : Outcome). o.storage) (taken_so s m (storing m a z) (completed t 0 (stored m a z v)) h)
      ∙ taken-stored m a z v (was_taken s m (storing m a z) (completed t 0 (stored m a z v)) h)

-- MOVEM: an access goes by the length of memory, which no store changes
access-same : (m m' : Memory) (a n : ℕ) → length (storage_of m') ≡ length (storage_of m) → access m' a n ≡ access m a n
unfolding access
access-same m m' a n e = rw e

many-same : (left : ℕ) (m m' : Memory) (regs a : ℕ) → length (storage_of m') ≡ length (storage_of m) → access_many left m' regs a ≡ access_many left m regs a
unfolding access_many
many-same zero m m' regs a e = refl
many-same (suc left) m m' regs a e =
    rw (access-same m m' a 4 e, many-same left m m' (regs / 2) (plus a 4) e, many-same left m m' (regs / 2) a e)

pub first_taken : (x : Result ℕ Fault) (rest : Result Unit Fault) → first_fault x rest ≡ Ok tt → (taken x ≡ Ok tt) × (rest ≡ Ok tt)
first_taken (Ok p) rest h = (refl, h)
first_taken (Err x) rest h = absurd (taken_or_not x h)

many-stored : (left : ℕ) (g : List ℕ) (n regs a : ℕ) (m : Memory) → access_many left m regs a ≡ Ok tt
    → stored_many left g n regs a m ≡ stored_all (storage_of m) (many_puts left g n regs a)
unfolding access_many stored_many many_puts
many-stored zero g n regs a m h = refl
many-stored (suc left) g n regs a m h =
    by (eqb (regs % 2) 1) (λ m' h. many-stored left g (n + 1) (regs / 2) (plus a 4) m' h) (λ h. many-stored left g (n + 1) (regs / 2) a m h) h
  where
    v : ℕ
    v = general g n

    m' : Memory
    m' = on_storage m (stored m a Long v)

    rest : List Put
    rest = many_puts left g (n + 1) (regs / 2) (plus a 4)

    Rest : Memory → Type 0
    Rest m = access_many left m (regs / 2) (plus a 4) ≡ Ok tt → stored_many left g (n + 1) (regs / 2) (plus a 4) m ≡ stored_all (storage_of m) rest

    by : (b : Bool) → ((m : Memory) → Rest m)
        → (access_many left m (regs / 2) a ≡ Ok tt → stored_many left g (n + 1) (regs / 2) a m ≡ stored_all (storage_of m) (many_puts left g (n + 1) (regs / 2) a))
        → cond b (first_fault (access m a 4) (access_many left m (regs / 2) (plus a 4))) (access_many left m (regs / 2) a) ≡ Ok tt
        → cond b (stored_many left g (n + 1) (regs / 2) (plus a 4) m') (stored_many left g (n + 1) (regs / 2) a m)
        ≡ stored_all (storage_of m) (cond b (put a 4 v ∷ rest) (many_puts left g (n + 1) (regs / 2) a))
    by true p q h =
        let both : (taken (access m a 4) ≡ Ok tt) × (access_many left m (regs / 2) (plus a 4) ≡ Ok tt) = first_taken (access m a 4) _ h in
        p m' (many-same left m m' (regs / 2) (plus a 4) (length_stored m a Long v) ∙ both.1)
        ∙ ap (λ (b : Storage). stored_all b rest) (taken-stored m a Long v (storing-is m a Long ∙ both.0))
    by false p q h = q h

-- the accesses of MOVEM's stores
many-places : (left : ℕ) (g : List ℕ) (n regs a : ℕ) → places (many_puts left g n regs a) ≡ many_longs left regs a
unfolding many_puts many_longs
many-places zero g n regs a = refl
many-places (suc left) g n regs a = by (eqb (regs % 2) 1) (many-places left g (n + 1) (regs / 2) (plus a 4)) (many-places left g (n + 1) (regs / 2) a)
  where
    by : (b : Bool) → places (many_puts left g (n + 1) (regs / 2) (plus a 4)) ≡ many_longs left (regs / 2) (plus a 4)
        → places (many_puts left g (n + 1) (regs / 2) a) ≡ many_longs left (regs / 2) a
        → places (cond b (put a 4 (general g n) ∷ many_puts left g (n + 1) (regs / 2) (plus a 4)) (many_puts left g (n + 1) (regs / 2) a))
        ≡ cond b (wanted a 4 ∷ many_longs left (regs / 2) (plus a 4)) (many_longs left (regs / 2) a)
    by true p q = ap (λ (l : List Wanted). wanted a 4 ∷ l) p
    by false p q = q

-- ---- an entry: from the registers after the operand's move

pub entering : (s : Cpu) (w : Write) (vector pc : ℕ) (m : Memory) → perform s (enter_after w s.sr vector pc) m ≡ entered s (handed w pc s) None vector pc m
unfolding perform enter_after acting applied no_write written
entering s w vector pc m = rw (coded_kept s.sr)

-- ---- every effect

-- what is done has this vector
abbrev Says : ℕ → Outcome → Type 0
Says v o = numbered o ≡ 0 → o.stepped.vector ≡ v

entered-says : (given s : Cpu) (vector pc : ℕ) (m : Memory) → Says vector (entered given s None vector pc m)
unfolding entered refusal
entered-says given s vector pc m =
    let sp : ℕ = address_of (set_sr (handler_sr None s.sr) s).r 7 in
    accessing-all (Says vector) given m (λ x h. absurd (fault_number x h)) (access m (pc_place sp) 4) _ λ high.
    accessing-all (Says vector) given m (λ x h. absurd (fault_number x h)) (access m (frame_place sp) 4) _ λ low.
    accessing-all (Says vector) given m (λ x h. absurd (fault_number x h)) (access m (vector_place s.vbr vector) 4) _ λ table.
    λ h. refl

-- a return enters none, and stores nothing
abbrev Reads : Memory → Outcome → Type 0
Reads m o = numbered o ≡ 0 → (o.stepped.vector ≡ 0) × (o.storage ≡ storage_of m)

returned-reads : (given s : Cpu) (m : Memory) → Reads m (returned given s m)
unfolding returned refusal
returned-reads given s m =
    let sp : ℕ = address_of s.r 7 in
    loading-all (Reads m) given m (λ x h. absurd (fault_number x h)) (load m sp Long) _ λ w.
    loading-all (Reads m) given m (λ x h. absurd (fault_number x h)) (load m (plus sp 4) Long) _ λ pc.
    λ h. (refl, refl)

module _ (s : Cpu) (m : Memory) where
  push-performs : (next v : ℕ) → Performs s m pushes_status (act s (with_pc next s) (PushStatus v) m)
  unfolding status_pushed with_pc
  push-performs next v =
      let sp : ℕ = minus (address_of s.r 7) 4 in
      record {
        answers = replies.store-answers s m sp Long _ refl;
        says = store-says s _ m sp Long s.sr;
        stores_so = store_lies s _ m sp Long s.sr;
        lawful = tt;
        enters-by = tt;
      }

  store_many_performs : (next regs a : ℕ) → Performs s m (stores_many regs a) (act s (with_pc next s) (StoreMany regs a) m)
  unfolding with_pc
  store_many_performs next regs a =
      let o : Outcome = completed (with_pc next s) 0 (stored_many 16 s.r 0 regs a m) in
      record {
        answers = subst (λ (l : List Wanted). replies.Answers m l (taking s m (access_many 16 m regs a) o)) (sym (append-nil _ ∙ many-places 16 s.r 0 regs a)) (replies.many-answers s s m regs a o refl);
        says = λ h. ap (λ (x : Outcome). x.stepped.vector) (taken_so s m (access_many 16 m regs a) o h);
        stores_so = λ h. ap (λ (x : Outcome). x.storage) (taken_so s m (access_many 16 m regs a) o h) ∙ many-stored 16 s.r 0 regs a m (was_taken s m (access_many 16 m regs a) o h);
        lawful = tt;
        enters-by = tt;
      }

  load_many_performs : (t : Cpu) (regs a : ℕ) → Performs s m (loads_many regs a) (act s t (LoadMany regs a) m)
  load_many_performs t regs a =
      let o : Outcome = completed _ 0 (storage_of m) in
      record {
        answers = replies.many-answers s s m regs a o refl;
        says = λ h. ap (λ (x : Outcome). x.stepped.vector) (taken_so s m (access_many 16 m regs a) o h);
        stores_so = λ h. ap (λ (x : Outcome). x.storage) (taken_so s m (access_many 16 m regs a) o h);
        lawful = tt;
        enters-by = tt;
      }

  enter-performs : (w : Write) (vector pc : ℕ) → Vector s.pc w vector pc → Performs s m (enters w vector pc) (entered s (handed w pc s) None vector pc m)
  unfolding with_parts
  enter-performs w vector pc v = record {
    answers = replies.entered-answers s (handed w pc s) None vector pc m;
    says = entered-says s (handed w pc s) vector pc m;
    stores_so = λ h. (entry.went s (handed w pc s) None vector pc m (done-is _ h)).storage;
    lawful = v;
    enters-by = refl;
  }

  return-performs : (next : ℕ) → Performs s m returns (returned s (with_pc next s) m)
  unfolding with_pc
  return-performs next = record {
    answers = replies.returned-answers s (with_pc next s) m;
    says = λ h. (returned-reads s (with_pc next s) m h).0;
    stores_so = λ h. (returned-reads s (with_pc next s) m h).1;
    lawful = tt;
    enters-by = tt;
  }

  pub performs : {e : Effect} {c : Change} → Does s.pc s.sr e c → Performs s m e (perform s c m)
  unfolding perform
  performs (does-nothing {c = c} h) =
      let q : Quiet m (act s (applied s c) c.action m) = quiet-act s (applied s c) m c.action h in
      record { answers = q.number; says = λ e. q.vector; stores_so = λ e. q.same; lawful = tt; enters-by = tt }
  performs (does-store {c = c} {a = a} {z = z} {v = v} h) = subst (λ (x : Action). Performs s m (stores a z v) (act s (applied s c) x m)) (sym h) (record {
    answers = replies.store-answers s m a z _ refl;
    says = store-says s (applied s c) m a z v;
    stores_so = store_lies s (applied s c) m a z v;
    lawful = tt;
    enters-by = tt;
  })
  performs (does-push next v) = rw (perform-acting s next (PushStatus v) m) (push-performs next v)
  performs (does_store_many next {regs = regs} {a = a}) = rw (perform-acting s next (StoreMany regs a) m) (store_many_performs next regs a)
  performs (does_load_many next {regs = regs} {a = a}) = rw (perform-acting s next (LoadMany regs a) m) (load_many_performs (with_pc next s) regs a)
  performs (does-enter {w = w} {vector = vector} {pc = pc} v) = rw (entering s w vector pc m) (enter-performs w vector pc v)
  performs (does-return next) = rw (perform-acting s next Return m) (return-performs next)
