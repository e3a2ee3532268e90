-- `image::file::read_image` meets its contract. Assumes nothing.
use Rattle.std.proofs.Common.{lit≤, length-drop}
use Rattle.std.proofs.lemmas.Result.{err_from_is_err_and}
use Rattle.manual.specs.Image.{load_image, image_bytes, loaded, read_of}
use Rattle.image.proofs.FileLaws.{head-same, state-same}
use Rattle.image.proofs.file.read_image.Goals as goal

pub returns-in_err-head : goal.returns-in_err-head
unfolding load_image loaded read_of
returns-in_err-head c =
    let p = err_from_is_err_and c.from_residual.result c.from_residual.ensures.1 in
    let f = c.in_err-head.ensures.refused in
    rw (p.1, p.2, ← f.0, f.1, f.1)

pub returns : goal.returns
unfolding load_image image_bytes loaded read_of
returns c =
    let e = c.in_ok-head.ensures in
    rw (
      e.reply,
      c.long_at-budget.ensures,
      c.image_state-cpu.ensures,
      c.fill.ensures,
      e.parts.0,
      e.parts.1,
      e.fits.1,
      state-same,
      head-same c.args.file.now 15 4 (lit≤ tt),
      length-drop,
    )
