-- `image::print::run_text` meets its contract: the lines are all that is put after the answer's. Assumes nothing.
use Rattle.std.proofs.Common.{sym, rules}
use Rattle.manual.specs.Image.{pc_line, sr_line, data_line, address_line, other_line, macsr_line, run_text}
use Rattle.image.proofs.PrintLaws.{appended-lines, longs-front, longs-back, run_fits, more_shown}
use Rattle.image.proofs.print.run_text.Goals as goal

pub returns : goal.returns
unfolding run_text pc_line sr_line data_line address_line other_line macsr_line
returns c =
    let g = c.args in
    more_shown c.answer_text-text.result _ _ _ c.answer_text-text.ensures
    (rw (
      c.hex_line-4.ensures,
      c.hex_line-3.ensures,
      c.registers_line-2.ensures,
      c.registers_line.ensures,
      c.hex_line-2.ensures,
      c.from.ensures,
      c.hex_line.ensures,
      c.steps_line.ensures,
      longs-front g.cpu.r (search rules),
      longs-back g.cpu.r (search rules),
    ) (sym (appended-lines _ _ _ _ _ _ _ _)))
    (run_fits g.reply g.count g.cpu)
