-- `memory::many::load_all` meets its contract: what is left to load, loaded, gives what is due. Assumes nothing.
use Rattle.std.proofs.Common.{sym, refl, ◌∙◌, rules}
use Rattle.memory.proofs.ManyLaws.{loaded_on, loaded-past, loaded-none, or_zero}
use Rattle.memory.proofs.many.load_all.Goals as goal
use Rattle.memory.proofs.many.load_all.Goals.{then-mask-eq1, else-mask-eq1}

pub loop-n-preserved : goal.loop-n-preserved
loop-n-preserved c = (
  search rules,
  elim c.if-mask-eq1.branch [
    | then-mask-eq1 w ↦
        rw (w.at-is, w.g-is) (loaded_on _ c.loop-n-test.true _ _ _ _ _ _ _ w.if-mask-eq1.true w.plus-at.ensures (rw (w.unwrap_or.ensures, or_zero w.load.result, w.load.ensures)) c.loop-n.invariant.1)
    | else-mask-eq1 w ↦ rw (w.at-is, w.g-is) (sym (loaded-past _ c.loop-n-test.true _ _ _ _ w.if-mask-eq1.false) ∙ c.loop-n.invariant.1)
  ],
)

pub returns : goal.returns
returns c = sym (loaded-none _ c.loop-n-test.false _ _ _ _) ∙ c.loop-n.invariant.1

pub loop-n-init : goal.loop-n-init
loop-n-init c = (search rules, refl)
