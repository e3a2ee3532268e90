-- A change that was summed in place is what the definition's step does. Assumes nothing.
use Rattle.std.specs.Prelude.{ℕ, ◌≡◌, List, Option, Some, None}
use Rattle.std.proofs.Math.Path.{sym, ap}
use Rattle.manual.specs.declared.Cpu.{Cpu}
use Rattle.manual.specs.declared.Emac.{Emac}
use Rattle.manual.specs.declared.Action.{Action}
use Rattle.manual.specs.declared.Action.TheVariants.{Nothing, Store, StoreMany, LoadMany, Enter, Return, Status, Stop, PushStatus, Halt, SetOther, Accumulate, SetAcc, SetExt, SetMacsr, SetMask, CopyAcc, ClearAcc, MoveControl, Refuse}
use Rattle.manual.specs.declared.Change.{Change}
use Rattle.manual.specs.Registers.{written, coded, applied, with_parts, with_emac}
use Rattle.manual.specs.Emac.{accumulate}
use Rattle.manual.specs.Reply.{Outcome, completed}
use Rattle.manual.specs.Memory.{Memory}
use Rattle.instructions.specs.Perform.{act, perform}
use Rattle.quick_bodies.specs.Units.{AfterMac, summed, undone, acted_on, in_unit}

module _ (g : List ℕ) (pc sr : ℕ) (e : Emac) (rest : Cpu) (m : Memory) (c : Change) (pc' : ℕ) (e' : Emac) (g' : List ℕ) where
  abbrev state : Cpu
  state = with_parts g pc sr e rest

  abbrev next : Outcome
  next = completed (with_parts g' pc' sr e' rest) 0 m

  abbrev changed : Emac → AfterMac
  changed u = summed c.pc (coded sr c.ccr) (written c.second (written c.first g)) u

  the_same : (u : Emac) → summed pc' sr g' e' ≡ changed u → next ≡ completed (with_emac u (applied state c)) 0 m
  unfolding applied with_parts with_emac
  the_same u h =
      let o : ◌≡◌ {A = Option ℕ} (Some pc') (Some c.pc) = ap (λ (a : AfterMac). a.next) h in
      let p : pc' ≡ c.pc = cc in
      let s : coded sr c.ccr ≡ sr = sym (ap (λ (a : AfterMac). a.status) h) in
      let r : g' ≡ written c.second (written c.first g) = ap (λ (a : AfterMac). a.registers) h in
      let n : e' ≡ u = ap (λ (a : AfterMac). a.unit) h in
      rw (p, s, r, n)

  clash : summed pc' sr g' e' ≡ undone sr g e → ⊥
  clash h = let q : ◌≡◌ {A = Option ℕ} (Some pc') None = ap (λ (a : AfterMac). a.next) h in cc

  by_action : (a : Action) → summed pc' sr g' e' ≡ acted_on a changed (undone sr g e) e → next ≡ act state (applied state c) a m
  unfolding applied with_parts
  by_action Nothing h = absurd (clash h)
  by_action (Store a z v) h = absurd (clash h)
  by_action (StoreMany mask a) h = absurd (clash h)
  by_action (LoadMany mask a) h = absurd (clash h)
  by_action (Enter n a) h = absurd (clash h)
  by_action Return h = absurd (clash h)
  by_action (Status v) h = absurd (clash h)
  by_action (Stop v) h = absurd (clash h)
  by_action (PushStatus v) h = absurd (clash h)
  by_action Halt h = absurd (clash h)
  by_action (SetOther v) h = absurd (clash h)
  by_action (Accumulate i scale sub x y) h = the_same (accumulate e i scale sub x y) h
  by_action (SetAcc i v) h = absurd (clash h)
  by_action (SetExt i v) h = absurd (clash h)
  by_action (SetMacsr v) h = absurd (clash h)
  by_action (SetMask v) h = absurd (clash h)
  by_action (CopyAcc from to) h = absurd (clash h)
  by_action (ClearAcc i) h = absurd (clash h)
  by_action (MoveControl writes c n) h = absurd (clash h)
  by_action (Refuse n) h = absurd (clash h)

  pub summed-performed : summed pc' sr g' e' ≡ in_unit c sr e g → next ≡ perform state c m
  unfolding in_unit perform
  summed-performed h = by_action c.action h
