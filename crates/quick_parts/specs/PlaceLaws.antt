-- A change that was done in place is what the definition's step does. Assumes nothing.
use Rattle.std.specs.Prelude.{ℕ, ◌≡◌, List, Option, Some, None, Result, Ok, Err}
use Rattle.std.proofs.Math.Path.{ap}
use Rattle.manual.specs.declared.Fault.{Fault}
use Rattle.manual.specs.declared.Cpu.{Cpu}
use Rattle.manual.specs.declared.Emac.{Emac}
use Rattle.manual.specs.declared.Action.{Action}
use Rattle.manual.specs.declared.Action.TheVariants.{Nothing, Store, StoreMany, LoadMany, Enter, Return, Status, Stop, PushStatus, Halt, SetOther, Accumulate, SetAcc, SetExt, SetMacsr, SetMask, CopyAcc, ClearAcc, MoveControl, Refuse}
use Rattle.manual.specs.declared.Change.{Change}
use Rattle.manual.specs.Registers.{written, coded, applied, with_parts, with_registers}
use Rattle.manual.specs.Memory.{Storage, Memory, storing, stored, access_many, stored_many, loaded_many}
use Rattle.manual.specs.Reply.{Outcome, completed, taking}
use Rattle.instructions.specs.Perform.{act, perform}
use Rattle.quick_parts.specs.Effects.{After, after, where_taken, acted, in_place}

clash : (pc sr sr' : ℕ) (g : List ℕ) (m : Memory) (g' : List ℕ) (m' : Storage) → after (Some pc) sr' g' m' ≡ after None sr g m → ⊥
clash pc sr sr' g m g' m' h =
    let q : ◌≡◌ {A = Option ℕ} (Some pc) None = ap (λ (a : After). a.next) h in cc

module _ (g : List ℕ) (pc sr : ℕ) (e : Emac) (rest : Cpu) (m : Memory) (c : Change) (pc' sr' : ℕ) (g' : List ℕ) (m' : Storage) where
  abbrev state : Cpu
  state = with_parts g pc sr e rest

  abbrev next : Outcome
  next = completed (with_parts g' pc' sr' e rest) 0 m'

  abbrev changed : List ℕ
  changed = written c.second (written c.first g)

  abbrev done : List ℕ → Storage → After
  done g1 m1 = after (Some c.pc) (coded sr c.ccr) g1 m1

  abbrev left : After
  left = after None sr g m

  the_same : (g1 : List ℕ) (m1 : Storage) → after (Some pc') sr' g' m' ≡ done g1 m1 → next ≡ completed (with_registers g1 (applied state c)) 0 m1
  unfolding applied with_parts with_registers
  the_same g1 m1 h =
      let q : ◌≡◌ {A = Option ℕ} (Some pc') (Some c.pc) = ap (λ (a : After). a.next) h in
      let p : pc' ≡ c.pc = cc in
      let s : sr' ≡ coded sr c.ccr = ap (λ (a : After). a.status) h in
      let r : g' ≡ g1 = ap (λ (a : After). a.registers) h in
      let n : m' ≡ m1 = ap (λ (a : After). a.storage) h in
      rw (p, s, r, n)

  settled : (m1 : Storage) → after (Some pc') sr' g' m' ≡ done changed m1 → next ≡ completed (applied state c) 0 m1
  unfolding applied with_parts with_registers
  settled m1 h = the_same changed m1 h

  if_taken_lem : (x : Result Unit Fault) (o : Outcome) (a : After) → (after (Some pc') sr' g' m' ≡ a → next ≡ o) → after (Some pc') sr' g' m' ≡ where_taken x a left
      → next ≡ taking state m x o
  if_taken_lem (Ok tt) o a f h = f h
  if_taken_lem (Err x) o a f h = absurd (clash pc' sr sr' g m g' m' h)

  by_action : (a : Action) → after (Some pc') sr' g' m' ≡ acted a done left changed m → next ≡ act state (applied state c) a m
  unfolding applied with_parts
  by_action Nothing h = settled m h
  by_action (Store a z v) h = if_taken_lem (storing m a z) _ _ (settled (stored m a z v)) h
  by_action (StoreMany mask a) h = if_taken_lem (access_many 16 m mask a) _ _ (settled (stored_many 16 changed 0 mask a m)) h
  by_action (LoadMany mask a) h = if_taken_lem (access_many 16 m mask a) _ _ (the_same (loaded_many 16 m 0 mask a changed) m) h
  by_action (Enter n a) h = absurd (clash pc' sr sr' g m g' m' h)
  by_action Return h = absurd (clash pc' sr sr' g m g' m' h)
  by_action (Status v) h = absurd (clash pc' sr sr' g m g' m' h)
  by_action (Stop v) h = absurd (clash pc' sr sr' g m g' m' h)
  by_action (PushStatus v) h = absurd (clash pc' sr sr' g m g' m' h)
  by_action Halt h = absurd (clash pc' sr sr' g m g' m' h)
  by_action (SetOther v) h = absurd (clash pc' sr sr' g m g' m' h)
  by_action (Accumulate i scale sub x y) h = absurd (clash pc' sr sr' g m g' m' h)
  by_action (SetAcc i v) h = absurd (clash pc' sr sr' g m g' m' h)
  by_action (SetExt i v) h = absurd (clash pc' sr sr' g m g' m' h)
  by_action (SetMacsr v) h = absurd (clash pc' sr sr' g m g' m' h)
  by_action (SetMask v) h = absurd (clash pc' sr sr' g m g' m' h)
  by_action (CopyAcc from to) h = absurd (clash pc' sr sr' g m g' m' h)
  by_action (ClearAcc i) h = absurd (clash pc' sr sr' g m g' m' h)
  by_action (MoveControl writes c n) h = absurd (clash pc' sr sr' g m g' m' h)
  by_action (Refuse n) h = absurd (clash pc' sr sr' g m g' m' h)

  pub performed : after (Some pc') sr' g' m' ≡ in_place c sr g m → next ≡ perform state c m
  unfolding in_place perform
  performed h = by_action c.action h

-- what is left has changed nothing
module _ (sr : ℕ) (g : List ℕ) (m : Storage) (sr' : ℕ) (g' : List ℕ) (m' : Storage) (h : after None sr' g' m' ≡ after None sr g m) where
  pub left-status : sr' ≡ sr
  left-status = ap (λ (a : After). a.status) h

  pub left-registers : g' ≡ g
  left-registers = ap (λ (a : After). a.registers) h

  pub left-memory : m' ≡ m
  left-memory = ap (λ (a : After). a.storage) h
