use Rattle.std.proofs.Common.{◌≡◌, lt-ltb, le-ltb, sym, ◌∙◌}
use Rattle.emac.proofs.ReadLaws.{out, clamped_in}
use Rattle.emac.proofs.read.clamped.Goals.{then-q, else-q, then-omc, else-omc}
use Rattle.emac.proofs.read.clamped.Goals as goal

pub returns-then-not-out : goal.returns-then-not-out
returns-then-not-out g c =
    let x = c.args in
    let e : c.if-q.out ≡ out x.omc x.below g.row.H x.q c.requires.0 c.requires.1 =
    elim c.if-q.branch [ then-q w ↦ rw (w.out-is, lt-ltb _ _ w.if-q.true) | else-q w ↦ rw (w.out-is, le-ltb _ _ w.if-q.false) ] in
    clamped_in x.omc x.below g.row.H x.q c.requires.0 c.requires.1 (elim c.if-omc.branch [ then-omc w ↦ rw (w.if-omc.true, ← e) (sym w.value-is ∙ c.if-not-out.true) | else-omc w ↦ rw w.if-omc.false ])
