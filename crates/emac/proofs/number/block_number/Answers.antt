use Rattle.std.proofs.Common.{sym, ◌∙◌}
use Rattle.std.proofs.Common.{inl, inr}
use Rattle.emac.specs.BlockLaws.{block-unsigned, block-low, block-high}
use Rattle.emac.proofs.number.block_number.Goals as goal

pub returns-then-p-lt140737488355328 : goal.returns-then-p-lt140737488355328
returns-then-p-lt140737488355328 c =
    let x = c.args in let e = c.unsigned.ensures in
    elim c.if-p-lt140737488355328.either [ inl u ↦ block-unsigned x.k x.a (sym e ∙ u) | inr h ↦ block-low x.k x.a (sym e ∙ h.0) h.1 ]

pub returns-else-p-lt140737488355328 : goal.returns-else-p-lt140737488355328
returns-else-p-lt140737488355328 c =
    let x = c.args in let h = c.if-p-lt140737488355328.false in
    block-high x.k x.a (sym c.unsigned.ensures ∙ h.0) h.1
