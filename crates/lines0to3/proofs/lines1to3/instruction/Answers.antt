use mathlib.Core.Path.{refl}
use borrow.Author.Tests.{eq-eqb, ne_eqb}
use Rattle.lines0to3.specs.MoveLines.{as_one}
use Rattle.lines0to3.proofs.lines1to3.instruction.Goals as goal

pub returns-then-row-movea_row : goal.returns-then-row-movea_row
returns-then-row-movea_row c =
    let x = c.args in
    rw (← as_one x.row _ x.at x.sr _ x.op x.line _ _ _ c.move_size-z.ensures c.movea_row.ensures refl, eq-eqb _ _ c.if-row-movea_row.true) c.movea.ensures

pub returns-then-row-move_row : goal.returns-then-row-move_row
returns-then-row-move_row c =
    let x = c.args in
    rw (← as_one x.row _ x.at x.sr _ x.op x.line _ _ _ c.move_size-z.ensures c.movea_row.ensures c.move_row.ensures, ne_eqb _ _ c.if-row-movea_row.false, eq-eqb _ _ c.if-row-move_row.true) c.op_move.ensures

pub returns : goal.returns
returns c =
    let x = c.args in
    rw (← as_one x.row _ x.at x.sr _ x.op x.line _ _ _ c.move_size-z.ensures c.movea_row.ensures c.move_row.ensures, ne_eqb _ _ c.if-row-movea_row.false, ne_eqb _ _ c.if-row-move_row.false) c.illegal.ensures

pub move_size-z-requires : goal.move_size-z-requires
move_size-z-requires c = tt

pub movea_row-requires : goal.movea_row-requires
movea_row-requires c = tt

pub movea-requires : goal.movea-requires
movea-requires c = tt

pub move_row-requires : goal.move_row-requires
move_row-requires c = tt

pub op_move-requires : goal.op_move-requires
op_move-requires c = tt

pub illegal-requires : goal.illegal-requires
illegal-requires c = tt
