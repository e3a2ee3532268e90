-- `machine::run::advanced` meets its contract. A turn of the loop knows more at each of its parts: its word and row, and then that the
-- three ways in place left the word as it was.
-- Assumes nothing.
use Rattle.std.proofs.Common.{ℕ, ◌≡◌, ◌∙◌, subst, refl, sym, arith, rules}
use Rattle.manual.specs.Registers.{with_parts}
use Rattle.manual.specs.Emac.{emac_of}
use Rattle.manual.specs.Lent.{lent}
use Rattle.manual.specs.declared.Reply.TheVariants.{Done}
use Rattle.machine.specs.Completed.{completed_step}
use Rattle.machine.specs.Advance.{advance, ended_as, progress}
use Rattle.machine.proofs.RunLaws as laws
use Rattle.machine.proofs.run.advanced.Goals as goal

pub loop-n-init : goal.loop-n-init
loop-n-init c = (search rules, refl, rw (laws.parts c.args.given) c.requires.0, laws.starts _ _ _)

pub returns-then-rest : goal.returns-then-rest
returns-then-rest c =
    let i = c.loop-n.invariant in
    rw c.ended.ensures (laws.halts (laws.turned c.loop-n-test.true i.2 i.3) _ c.if-rest.true c.assembled-last.ensures)

pub returns-in-Err : goal.returns-in-Err
returns-in-Err c =
    let i = c.loop-n.invariant in
    rw (c.ended-in-Err.ensures, c.fault_reply.ensures)
    (laws.unfetched (laws.turned c.loop-n-test.true i.2 i.3) c.if-rest.false _ _ c.load.ensures c.in-Err.is _ c.assembled-last-in-Err.ensures)

pub loop-n-preserved-in-Some : goal.loop-n-preserved-in-Some
loop-n-preserved-in-Some c =
    let x = c.loop-n in
    let i = x.invariant in
    let f = laws.fetched_at (laws.turned c.loop-n-test.true i.2 i.3) c.if-rest.false (sym c.load.ensures ∙ c.in-Ok.is) (c.row_by-row.ensures ∙ c.requires.1 c.in-Ok.op) in
    let p = c.tried-done in
    let d = c.in-Some in
    let e = emac_of p.new.macsr x.mask p.new.acc in
    let done = laws.in_turn f p.new.g p.new.sr e p.new.mem p.result (p.ensures x.rest) d.next d.is in
    let o = laws.goes_on f (completed_step (with_parts p.new.g d.next p.new.sr e x.rest)) p.new.mem p.auto.mem done refl in
    (omega (arith, c.loop-n-test.true), p.auto.mem ∙ i.1, o.0, o.1)

pub returns-then-not-is_done : goal.returns-then-not-is_done
returns-then-not-is_done c =
    let x = c.loop-n in
    let i = x.invariant in
    let f = laws.fetched_at (laws.turned c.loop-n-test.true i.2 i.3) c.if-rest.false (sym c.load.ensures ∙ c.in-Ok.is) (c.row_by-row.ensures ∙ c.requires.1 c.in-Ok.op) in
    let p = c.tried-done in
    let l = laws.left f p.new.g p.new.sr (emac_of p.new.macsr x.mask p.new.acc) p.new.mem p.result (p.ensures x.rest) c.in_default.is in
    let r = c.performed-stepped in
    let done = laws.performed l r.result r.new.mem _ c.assembled-held.ensures r.ensures in
    rw c.ended-then-not-is_done.ensures (laws.stops-here l r.result r.new.mem done (sym c.is_done.ensures ∙ c.if-not-is_done.true))

pub loop-n-preserved : goal.loop-n-preserved
loop-n-preserved c =
    let x = c.loop-n in
    let i = x.invariant in
    let f = laws.fetched_at (laws.turned c.loop-n-test.true i.2 i.3) c.if-rest.false (sym c.load.ensures ∙ c.in-Ok.is) (c.row_by-row.ensures ∙ c.requires.1 c.in-Ok.op) in
    let p = c.tried-done in
    let l = laws.left f p.new.g p.new.sr (emac_of p.new.macsr x.mask p.new.acc) p.new.mem p.result (p.ensures x.rest) c.in_default.is in
    let r = c.performed-stepped in
    let done = laws.performed l r.result r.new.mem _ c.assembled-held.ensures r.ensures in
    let o = laws.goes_on l r.result r.new.mem r.auto.mem done (sym c.is_done.ensures ∙ c.if-not-is_done.false) in (
      omega (arith, c.loop-n-test.true),
      r.auto.mem ∙ p.auto.mem ∙ i.1,
      rw (laws.parts r.result.cpu) o.0,
      rw (laws.parts r.result.cpu) o.1,
    )

pub returns : goal.returns
returns c =
    let x = c.loop-n in
    let last = with_parts x.g x.pc x.sr (emac_of x.macsr x.mask x.acc) x.rest in
    let e : x.n ≡ c.args.budget = omega (arith, x.invariant.0, c.loop-n-test.false) in
    rw (c.ended-2.ensures, c.assembled-last-2.ensures)
    (subst (λ (k : ℕ). advance (ended_as Done k x.vector last) x.mem ≡ progress c.args.budget 0 0 c.args.given (lent c.args.mem.now)) e
    (laws.ends _ x.n x.vector _ last (lent x.mem) x.invariant.3 c.loop-n-test.false))
