use mathlib.Core.Logic.{inl, inr}
use native.Mathlib.Omega.{arith}
use Rattle.lines0to3.specs.MoveLines.{move_line}
use Rattle.machine.proofs.ExecuteLaws.{of_line, of_line_0}
use Rattle.machine.proofs.execute.instruction.Goals as goal
use Rattle.machine.proofs.execute.instruction.Goals.{in_default-via-then-row-lt79+then-row-lt14, in_default-via-else-row-lt79+else-row-lt89+else-row-lt102+else-row-lt106+else-row-lt110+else-row-lt120+else-row-lt123+else-row-lt127}

pub returns-in-18-to-19 : goal.returns-in-18-to-19
unfolding move_line
returns-in-18-to-19 c = of_line _ _ _ _ _ _ _ _ _ 3 (omega arith) (omega arith) (omega arith) (omega arith) c.instruction-in-18-to-19.ensures

pub returns-in-20-to-59 : goal.returns-in-20-to-59
unfolding move_line
returns-in-20-to-59 c = of_line _ _ _ _ _ _ _ _ _ 4 (omega arith) (omega arith) (omega arith) (omega arith) c.instruction-in-20-to-59.ensures

pub returns-in-60-to-68 : goal.returns-in-60-to-68
unfolding move_line
returns-in-60-to-68 c = of_line _ _ _ _ _ _ _ _ _ 5 (omega arith) (omega arith) (omega arith) (omega arith) c.instruction-in-60-to-68.ensures

pub returns-in-69-to-71 : goal.returns-in-69-to-71
unfolding move_line
returns-in-69-to-71 c = of_line _ _ _ _ _ _ _ _ _ 6 (omega arith) (omega arith) (omega arith) (omega arith) c.instruction-in-69-to-71.ensures

pub returns-in-72-to-74 : goal.returns-in-72-to-74
unfolding move_line
returns-in-72-to-74 c = of_line _ _ _ _ _ _ _ _ _ 7 (omega arith) (omega arith) (omega arith) (omega arith) c.instruction-in-72-to-74.ensures

pub returns-in-75-to-78 : goal.returns-in-75-to-78
unfolding move_line
returns-in-75-to-78 c = of_line _ _ _ _ _ _ _ _ _ 8 (omega arith) (omega arith) (omega arith) (omega arith) c.instruction-in-75-to-78.ensures

pub returns-in-79-to-88 : goal.returns-in-79-to-88
unfolding move_line
returns-in-79-to-88 c = of_line _ _ _ _ _ _ _ _ _ 9 (omega arith) (omega arith) (omega arith) (omega arith) c.instruction-in-79-to-88.ensures

pub returns-in-89-to-101 : goal.returns-in-89-to-101
unfolding move_line
returns-in-89-to-101 c = of_line _ _ _ _ _ _ _ _ _ 10 (omega arith) (omega arith) (omega arith) (omega arith) c.instruction-in-89-to-101.ensures

pub returns-in-102-to-105 : goal.returns-in-102-to-105
unfolding move_line
returns-in-102-to-105 c = of_line _ _ _ _ _ _ _ _ _ 11 (omega arith) (omega arith) (omega arith) (omega arith) c.instruction-in-102-to-105.ensures

pub returns-in-106-to-109 : goal.returns-in-106-to-109
unfolding move_line
returns-in-106-to-109 c = of_line _ _ _ _ _ _ _ _ _ 12 (omega arith) (omega arith) (omega arith) (omega arith) c.instruction-in-106-to-109.ensures

pub returns-in-110-to-119 : goal.returns-in-110-to-119
unfolding move_line
returns-in-110-to-119 c = of_line _ _ _ _ _ _ _ _ _ 13 (omega arith) (omega arith) (omega arith) (omega arith) c.instruction-in-110-to-119.ensures

pub returns-in-120-to-122 : goal.returns-in-120-to-122
unfolding move_line
returns-in-120-to-122 c = of_line _ _ _ _ _ _ _ _ _ 14 (omega arith) (omega arith) (omega arith) (omega arith) c.instruction-in-120-to-122.ensures

pub returns-in-123-to-126 : goal.returns-in-123-to-126
unfolding move_line
returns-in-123-to-126 c = of_line _ _ _ _ _ _ _ _ _ 15 (omega arith) (omega arith) (omega arith) (omega arith) c.instruction-in-123-to-126.ensures

pub returns-in_default : goal.returns-in_default
unfolding move_line
returns-in_default c =
    of_line_0 _ _ _ _ _ _ _ _ _
    (elim c.in_default.branch [
      | in_default-via-then-row-lt79+then-row-lt14 w ↦ inl (omega arith)
      | in_default-via-else-row-lt79+else-row-lt89+else-row-lt102+else-row-lt106+else-row-lt110+else-row-lt120+else-row-lt123+else-row-lt127 w ↦ inr (omega arith)
    ])
    c.instruction-in_default.ensures
