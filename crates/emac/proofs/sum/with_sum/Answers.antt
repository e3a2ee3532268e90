use Rattle.std.proofs.Common.{◌≡◌, ◌^◌, ◌||◌, not, ℤ}
use Rattle.manual.specs.Emac.{in_range, pav}
use Rattle.word.specs.RaisedLaws.{Up}
use Rattle.emac.specs.MacLaws.{with_sum-by}
use Rattle.emac.proofs.sum.with_sum.Goals.{then-over, else-over, then-out, else-out}
use Rattle.emac.proofs.sum.with_sum.Goals as goal

pub returns : goal.returns
returns c =
    let x = c.args in
    let o : (z : ℤ) → Up (2 ^ 52) z x.s → c.if-over.out ≡ (x.over || not (in_range x.k z)) =
    elim c.if-over.branch [
      | then-over w ↦ λ z u. rw (w.out-is, w.if-over.true)
      | else-over w ↦ λ z u. rw (w.out-is, w.if-over.false) (w.outside-out.ensures.value z u)
    ] in
    let p : c.if-out.with_flags ≡ (c.if-over.out || pav x.m x.i) =
    elim c.if-out.branch [
      | then-out w ↦ rw (w.with_flags-is, w.if-out.true)
      | else-out w ↦ rw (w.with_flags-is, w.if-out.false) w.pav.ensures
    ] in
    with_sum-by x.k x.m x.i x.s x.over _ _ _ o c.stored-acc.ensures (rw (← p) c.with_flags-macsr.ensures)
