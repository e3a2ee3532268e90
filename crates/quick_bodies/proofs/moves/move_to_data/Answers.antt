use Rattle.lines0to3.specs.MoveLaws.{move_to_data, move_data}
use Rattle.quick_bodies.proofs.moves.move_to_data.Goals as goal

pub returns : goal.returns
unfolding move_to_data
returns c = λ at m h.
    rw (move_data _ _ _ _ _ _ c.requires, h, ← c.move_codes-codes.ensures, ← c.data.ensures, ← c.merged-whole.ensures, ← c.write_data.ensures, ← c.done.ensures) (c.changed.ensures _)
