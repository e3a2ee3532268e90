use Rattle.std.specs.Prelude.{false}
use Rattle.quick_bodies.proofs.ManyLaws.{many_loaded}
use Rattle.quick_bodies.proofs.flow.movem_load.Goals as goal

pub returns : goal.returns
returns c = λ sr.
    let s = c.load_many.ensures in
    rw s.1 (many_loaded _ _ _ _ _ _ _ _ _ (rw c.in_ok-mask.was at (c.moved_many.ensures false sr)) s.0 c.in_ok-ok.ensures.value)
