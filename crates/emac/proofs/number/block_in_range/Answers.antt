use Rattle.emac.specs.BlockLaws.{in_unsigned, in_signed}
use Rattle.std.proofs.Common.{rules, ◌∙◌, lt-ltb, le-ltb, sym}
use Rattle.emac.proofs.number.block_in_range.Goals as goal

pub returns-then-unsigned : goal.returns-then-unsigned
returns-then-unsigned c = let x = c.args in in_unsigned x.k x.b (search rules) (sym c.unsigned.ensures ∙ c.if-unsigned.true)

pub returns-then-b-lt140737488355328 : goal.returns-then-b-lt140737488355328
returns-then-b-lt140737488355328 c =
    let x = c.args in
    rw (← in_signed x.k x.b (search rules) (sym c.unsigned.ensures ∙ c.if-unsigned.false), lt-ltb _ _ c.if-b-lt140737488355328.true)

pub returns-else-b-lt140737488355328 : goal.returns-else-b-lt140737488355328
returns-else-b-lt140737488355328 c =
    let x = c.args in
    rw (← in_signed x.k x.b (search rules) (sym c.unsigned.ensures ∙ c.if-unsigned.false), le-ltb _ _ c.if-b-lt140737488355328.false)
