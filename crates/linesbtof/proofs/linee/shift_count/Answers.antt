use Rattle.linesbtof.proofs.Counts.{quick_below}
use borrow.Author.Tests.{eq-eqb, ne_eqb}
use Rattle.instructions.specs.LineE.{shift_count as shift_count_of}
use borrow.Author.Rules.{rules}
use Rattle.linesbtof.proofs.linee.shift_count.Goals as goal

pub returns-then-op-eq1 : goal.returns-then-op-eq1
unfolding shift_count_of
returns-then-op-eq1 c = (rw (eq-eqb _ _ c.if-op-eq1.true, ← c.data.ensures), search rules)

pub returns-else-op-eq1 : goal.returns-else-op-eq1
unfolding shift_count_of
returns-else-op-eq1 c = (rw (ne_eqb _ _ c.if-op-eq1.false, ← c.quick_number.ensures), rw c.quick_number.ensures (quick_below _))

pub data-requires : goal.data-requires
unfolding shift_count_of
data-requires c = tt

pub quick_number-requires : goal.quick_number-requires
unfolding shift_count_of
quick_number-requires c = tt
