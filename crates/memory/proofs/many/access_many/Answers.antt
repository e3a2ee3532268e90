-- `memory::many::access_many` meets its contract: what is left to ask for gives what is due. Assumes nothing.
use Rattle.std.proofs.Common.{◌≡◌, Err, ◌∙◌, sym, rules}
use Rattle.memory.proofs.ManyLaws.{access-on, access-not, access-past, access-none}
use Rattle.memory.proofs.many.access_many.Goals as goal
use Rattle.memory.proofs.many.access_many.Goals.{then-mask-eq1+in_ok-access, else-mask-eq1}

pub returns-in_err-access : goal.returns-in_err-access
returns-in_err-access c =
    let e : c.from_residual.result ≡ Err c.in_err-access.field-0.0 = search rules in
    e ∙ access-not _ c.loop-n-test.true _ _ _ _ _ _ c.if-mask-eq1.true c.access.ensures c.in_err-access.was c.loop-n.invariant.1

pub loop-n-preserved : goal.loop-n-preserved
loop-n-preserved c = (
  search rules,
  elim c.if-mask-eq1.branch [
    | then-mask-eq1+in_ok-access w ↦
        rw w.at-is (access-on _ c.loop-n-test.true _ _ _ _ _ _ _ w.if-mask-eq1.true w.access.ensures w.in_ok-access.was w.plus-at.ensures c.loop-n.invariant.1)
    | else-mask-eq1 w ↦ rw w.at-is (access-past _ c.loop-n-test.true _ _ _ _ w.if-mask-eq1.false c.loop-n.invariant.1)
  ],
)

pub returns : goal.returns
returns c = sym (access-none _ c.loop-n-test.false _ _ _) ∙ c.loop-n.invariant.1
