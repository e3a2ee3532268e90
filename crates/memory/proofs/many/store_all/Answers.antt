-- `memory::many::store_all` meets its contract: what is left to store, stored, gives what is due. Assumes nothing.
use Rattle.std.proofs.Common.{sym, refl, ◌∙◌, rules}
use Rattle.memory.specs.MemoryLaws.{length_stored}
use Rattle.memory.proofs.ManyLaws.{stored_on, stored_past, stored-none}
use Rattle.memory.proofs.many.store_all.Goals as goal
use Rattle.memory.proofs.many.store_all.Goals.{then-mask-eq1, else-mask-eq1}

pub loop-n-preserved : goal.loop-n-preserved
loop-n-preserved c =
    let v = c.loop-n.invariant in
    elim c.if-mask-eq1.branch [
      | then-mask-eq1 w ↦
          rw (w.at-is, w.mem-is) (
            search rules,
            rw w.store.ensures.1 (length_stored _ _ _ _ ∙ v.1),
            stored_on _ c.loop-n-test.true _ _ _ _ _ _ _ w.if-mask-eq1.true w.plus-at.ensures w.store.ensures.1 v.2,
          )
      | else-mask-eq1 w ↦
          rw (w.at-is, w.mem-is) (
            search rules,
            search rules,
            sym (stored_past _ c.loop-n-test.true _ _ _ _ w.if-mask-eq1.false) ∙ v.2,
          )
    ]

pub returns : goal.returns
returns c = sym (stored-none _ c.loop-n-test.false _ _ _ _) ∙ c.loop-n.invariant.2

pub loop-n-init : goal.loop-n-init
loop-n-init c = (search rules, refl, refl)
