use Rattle.std.proofs.Common.{sym, ◌∙◌}
use Rattle.std.proofs.Common.{inl, inr}
use Rattle.emac.specs.MacLaws.{value-unsigned, value_low, value-high, told}
use Rattle.emac.proofs.sum.value_of.Goals as goal

pub returns-then-p-lt140737488355328 : goal.returns-then-p-lt140737488355328
returns-then-p-lt140737488355328 c =
    let x = c.args in let e = c.unsigned.ensures in
    told x.k x.a _ (elim c.if-p-lt140737488355328.either [ inl u ↦ value-unsigned x.k x.a (sym e ∙ u) | inr h ↦ value_low x.k x.a (sym e ∙ h.0) h.1 ])

pub returns-else-p-lt140737488355328 : goal.returns-else-p-lt140737488355328
returns-else-p-lt140737488355328 c =
    let x = c.args in let h = c.if-p-lt140737488355328.false in
    told x.k x.a _ (value-high x.k x.a (sym c.unsigned.ensures ∙ h.0) h.1)
