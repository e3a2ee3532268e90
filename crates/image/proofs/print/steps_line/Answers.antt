-- `image::print::steps_line` meets its contract. Assumes nothing.
use Rattle.std.proofs.Common.{sym, [], ◌∷◌}
use Rattle.manual.specs.Image.{steps_line}
use Rattle.image.proofs.PrintLaws.{appended-line}
use Rattle.image.proofs.print.steps_line.Goals as goal

pub returns : goal.returns
unfolding steps_line
returns c =
    rw (c.put.ensures, c.put_decimal.ensures, c.put_all.ensures)
    (sym (appended-line c.args.text.now (115 ∷ 116 ∷ 101 ∷ 112 ∷ 115 ∷ 32 ∷ []) _ _))
