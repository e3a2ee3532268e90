use Rattle.lines0to3.specs.MoveLaws.{move_to}
use Rattle.quick_parts.specs.Near.{read as read_of}
use Rattle.instructions.specs.Moves.{move as move_of}
use Rattle.quick_bodies.proofs.far.far_move.Goals as goal

pub returns : goal.returns
unfolding move_of move_to
returns c =
    rw (← c.plus.ensures, read_of _ _ _ c.in_ok-from.was c.read_any.ensures, ← c.written-moved.ensures, ← c.operand-target.ensures, ← c.move_to-c.ensures) c.carried_out.ensures
