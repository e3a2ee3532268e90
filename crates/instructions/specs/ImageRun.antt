-- What the program `coreimage` prints of a file, and storage after it. Document: "An image file".
use Rattle.std.specs.Prelude.{ℕ}
use mathlib.Core.{Bool.cond, List.List}
use Rattle.manual.specs.{Memory.Storage, Reply.is_done, Lent.lent, Image.Image, Image.Printed, Image.load_image, Image.answer_line, Image.run_text, Image.text_of}
use Rattle.instructions.specs.{Run.RunOutcome, Run.run}

pub record ImageRan : Type 0 where
  pub text : Printed
  pub storage : Storage

abbrev pub image_ran : Printed → Storage → ImageRan
image_ran t b = record { text = t; storage = b }

-- a run's reply, count and state are printed
unfoldable pub ran_text : RunOutcome → ImageRan
ran_text o = image_ran (text_of (run_text o.ran.reply o.ran.count o.ran.cpu)) o.storage

-- a file that is accepted is run; of one that is refused the first line is printed alone
unfoldable pub image_run : List ℕ → Storage → ImageRan
image_run f b =
    let i : Image = load_image f b in
    cond (is_done i.reply)
    (ran_text (run i.budget i.cpu (lent i.storage)))
    (image_ran (text_of (answer_line i.reply)) i.storage)
