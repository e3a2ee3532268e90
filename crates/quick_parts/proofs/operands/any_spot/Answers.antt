use Rattle.quick_parts.proofs.operands.any_spot.Goals as goal

pub returns-in-6 : goal.returns-in-6
returns-in-6 c = rw c.in-6.is (c.indexed_spot.ensures _)

pub returns-in-7 : goal.returns-in-7
returns-in-7 c = rw c.in-7.is (c.absolute_spot.ensures.1 _ _)
