use Rattle.std.proofs.Common.{◌≡◌, ◌*ℤ◌, false, ◌&&◌, lt-ltb, le-ltb, sym, ◌∙◌}
use Rattle.manual.specs.declared.Size.TheVariants.{Long}
use Rattle.manual.specs.Word.{signed}
use Rattle.emac.specs.ProductLaws.{over40, signed-wraps}
use Rattle.emac.proofs.product.signed_product.Goals.{then-p-lt4611685468671574016, else-p-lt4611685468671574016, then-over, else-over}
use Rattle.emac.proofs.product.signed_product.Goals as goal

pub returns-then-not-omc : goal.returns-then-not-omc
returns-then-not-omc c =
    let x = c.args in let p = c.product-p in let out = c.if-p-lt4611685468671574016.over in
    let e : out ≡ over40 p.result =
    elim c.if-p-lt4611685468671574016.branch [
      | then-p-lt4611685468671574016 w ↦ rw (w.over-is, lt-ltb _ _ w.if-p-lt4611685468671574016.true)
      | else-p-lt4611685468671574016 w ↦ rw (w.over-is, le-ltb _ _ w.if-p-lt4611685468671574016.false)
    ] in
    let n : (over40 p.result && x.omc) ≡ false =
    elim c.if-over.branch [ then-over w ↦ rw (← e, w.if-over.true) (sym w.value-is ∙ c.if-not-omc.true) | else-over w ↦ rw (← e, w.if-over.false) ] in
    rw e (signed-wraps x.omc (signed Long x.x *ℤ signed Long x.y) p.result p.ensures.0 n)
