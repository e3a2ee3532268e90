use mathlib.Core.Path.{◌≡◌}
use native.Mathlib.Omega.{arith}
use mathlib.Core.Logic.{⊎_elim}
use Rattle.word.specs.TestLaws.{by-lt}
use Rattle.quick_parts.specs.Near.{read as read_of}
use Rattle.instructions.specs.Step.{of_row}
use Rattle.instructions.specs.Rows.{row_of, place_in}
use Rattle.instructions.specs.Moves.{moves}
use Rattle.instructions.specs.Line4.{line4}
use Rattle.instructions.specs.Line7.{line7}
use Rattle.instructions.specs.LineC.{line_c}
use Rattle.quick_bodies.specs.Parts.{part_of}
use Rattle.quick_bodies.proofs.parts.part.Goals as goal

pub returns-in-15 : goal.returns-in-15
unfolding of_row moves place_in part_of row_of
returns-in-15 c =
    λ other e.
    let h = rw c.plus.ensures at (read_of _ _ _ c.in_ok-from.was c.read.ensures) in
    ⊎_elim
    (λ k. rw k (rw (c.part_of-z.ensures, k) at (c.move_read.ensures _ h)))
    (λ k. rw k (rw (c.part_of-z.ensures, k) at (c.move_read.ensures _ h)))
    c.in-15.is

pub returns-in-18 : goal.returns-in-18
unfolding of_row moves place_in part_of row_of
returns-in-18 c =
    λ other e.
    let h = rw (c.plus.ensures, c.part_of-z.ensures, c.in-18.is) at (read_of _ _ _ c.in_ok-from.was c.read.ensures) in
    rw c.in-18.is (c.movea_read.ensures _ _ h)

pub returns-in-57 : goal.returns-in-57
unfolding of_row line4 place_in part_of row_of
returns-in-57 c =
    λ other e.
    let h = rw (c.plus.ensures, c.part_of-z.ensures, c.in-57.is) at (read_of _ _ _ c.in_ok-from.was c.read.ensures) in
    rw c.in-57.is (c.tst.ensures _ _ h)

pub returns-in-72 : goal.returns-in-72
unfolding of_row line7 place_in part_of row_of
returns-in-72 c =
    λ other e.
    let h = rw (c.plus.ensures, c.part_of-z.ensures, c.in-72.is) at (read_of _ _ _ c.in_ok-from.was c.read.ensures) in
    rw c.in-72.is (c.mvs.ensures _ _ h)

pub returns-in-73 : goal.returns-in-73
unfolding of_row line7 place_in part_of row_of
returns-in-73 c =
    λ other e.
    let h = rw (c.plus.ensures, c.part_of-z.ensures, c.in-73.is) at (read_of _ _ _ c.in_ok-from.was c.read.ensures) in
    rw c.in-73.is (c.mvz.ensures _ _ h)

pub returns-in-106 : goal.returns-in-106
unfolding of_row line_c place_in part_of row_of
returns-in-106 c =
    λ other e.
    let a = c.args in
    let h = read_of _ _ _ c.in_ok-from.was c.read.ensures in
    by-lt a.row 107
    (λ l. let k : a.row ≡ 106 = omega arith in rw k (rw k at (c.mul_w.ensures _ _ (rw (c.plus.ensures, c.part_of-z.ensures, k) at h))))
    (λ l. let k : a.row ≡ 107 = omega arith in rw k (rw k at (c.mul_w.ensures _ _ (rw (c.plus.ensures, c.part_of-z.ensures, k) at h))))
