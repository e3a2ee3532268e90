use Rattle.instructions.specs.Moves.{move as move_of}
use Rattle.lines0to3.specs.MoveLaws.{move_to, move_to_data, move_data}
use Rattle.lines0to3.proofs.lines1to3.op_move.Goals as goal

pub returns-in-Err : goal.returns-in-Err
unfolding move_of
returns-in-Err c =
    rw (← c.plus.ensures, ← c.source-from.ensures, c.in-Err.is, ← c.refused.ensures)

pub returns-then-mode-eq0 : goal.returns-then-mode-eq0
unfolding move_to_data
returns-then-mode-eq0 c =
    rw (move_data _ _ _ _ _ _ c.if-mode-eq0.true, ← c.plus.ensures, ← c.source-from.ensures, c.in-Ok.is, ← c.data-old.ensures, ← c.move_codes-codes.ensures, ← c.merged.ensures, ← c.write_data.ensures, ← c.done.ensures)

pub returns-else-mode-eq0 : goal.returns-else-mode-eq0
unfolding move_of move_to
returns-else-mode-eq0 c =
    rw (← c.plus.ensures, ← c.source-from.ensures, c.in-Ok.is, ← c.written-after.ensures, ← c.operand-target.ensures, ← c.move_to.ensures)
