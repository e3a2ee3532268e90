use Rattle.std.specs.Prelude.{true}
use Rattle.quick_bodies.proofs.ManyLaws.{many_stored}
use Rattle.quick_bodies.proofs.flow.movem_store.Goals as goal

pub returns : goal.returns
returns c = λ sr.
    let s = c.store_many.ensures in
    rw s.1 (many_stored _ _ _ _ _ _ _ _ _ (rw c.in_ok-mask.was at (c.moved_many.ensures true sr)) s.0 c.in_ok-ok.ensures.value)
