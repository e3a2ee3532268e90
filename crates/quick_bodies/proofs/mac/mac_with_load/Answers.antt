use Rattle.quick_bodies.specs.Units.{in_unit}
use Rattle.quick_bodies.proofs.LoadLaws.{kept-status, loaded}
use Rattle.quick_bodies.proofs.mac.mac_with_load.Goals as goal

pub returns : goal.returns
unfolding in_unit
returns c = λ sr e.
    let a = c.args in
    let i = loaded a.g.now a.pc sr a.macsr a.mask a.mem.now a.op a.w _ _ _ _ c.in_ok-at.was c.load.ensures c.in_ok-v.ensures.value (c.load_spot.ensures sr a.macsr) in
    rw (c.product_by.ensures, ← i, kept-status sr, ← c.general-rx.ensures, ← c.general-ry.ensures, ← c.write_general.ensures, ← c.write.ensures, ← c.write-2.ensures)
