use Rattle.instructions.specs.Step.{of_row}
use Rattle.instructions.specs.Rows.{row_of, place_in}
use Rattle.instructions.specs.Moves.{moves}
use Rattle.quick_bodies.proofs.far.far.Goals as goal
use Rattle.quick_bodies.proofs.far.far.Goals.{in-15, in-17, in-19}

pub returns : goal.returns
unfolding of_row moves place_in row_of
returns c =
    λ other e.
    elim c.match-row.branch [
      | in-15 w ↦ rw w.in-15.is (rw w.z-is at c.far_move.ensures)
      | in-17 w ↦ rw w.in-17.is (rw w.z-is at c.far_move.ensures)
      | in-19 w ↦ rw w.in-19.is (rw w.z-is at c.far_move.ensures)
    ]
