use Rattle.instructions.specs.Step.{of_row}
use Rattle.instructions.specs.Rows.{place_in}
use Rattle.instructions.specs.Moves.{moves}
use Rattle.quick.proofs.in_place.Goals as goal

pub returns-in-16 : goal.returns-in-16
unfolding of_row moves place_in
returns-in-16 c = λ other e. rw c.in-16.is c.movea.ensures
