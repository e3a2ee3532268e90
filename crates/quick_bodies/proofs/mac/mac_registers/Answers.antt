use Rattle.manual.specs.Registers.{no_write, written}
use Rattle.manual.specs.Change.{acting}
use Rattle.instructions.specs.LineA.{mac_registers}
use Rattle.quick_bodies.specs.Units.{in_unit}
use Rattle.quick_bodies.proofs.LoadLaws.{kept-status}
use Rattle.quick_bodies.proofs.mac.mac_registers.Goals as goal

pub returns : goal.returns
unfolding in_unit mac_registers acting no_write written
returns c = λ sr e.
    rw (c.product_by.ensures, kept-status sr, ← c.general-rx.ensures, ← c.general-ry.ensures, c.plus.ensures)
