-- `rows::row_of` meets its contract: each line's function is called at a word of its line. Assumes nothing.
use mathlib.Core.Path.{◌∙◌}
use Prim.Native.Nat.{◌/◌, ◌%◌}
use native.Mathlib.Omega.{arith}
use Rattle.rows.specs.RowLaws.{row_of_mod}
use Rattle.rows.proofs.DecodeLaws.{start, rest}
use Rattle.rows.proofs.row_of.Goals as goal

pub line_0-requires : goal.line_0-requires
line_0-requires c = start 0 _ (omega arith) c.in-0.is

pub line_1-requires : goal.line_1-requires
line_1-requires c = start 1 _ (omega arith) c.in-1.is

pub line_2-requires : goal.line_2-requires
line_2-requires c = start 2 _ (omega arith) c.in-2.is

pub line_3-requires : goal.line_3-requires
line_3-requires c = start 3 _ (omega arith) c.in-3.is

pub line_4-requires : goal.line_4-requires
line_4-requires c = start 4 _ (omega arith) c.in-4.is

pub line_5-requires : goal.line_5-requires
line_5-requires c = start 5 _ (omega arith) c.in-5.is

pub line_6-requires : goal.line_6-requires
line_6-requires c = start 6 _ (omega arith) c.in-6.is

pub line_7-requires : goal.line_7-requires
line_7-requires c = start 7 _ (omega arith) c.in-7.is

pub line_8-requires : goal.line_8-requires
line_8-requires c = start 8 _ (omega arith) c.in-8.is

pub line_9-requires : goal.line_9-requires
line_9-requires c = start 9 _ (omega arith) c.in-9.is

pub line_a-requires : goal.line_a-requires
line_a-requires c = start 10 _ (omega arith) c.in-10.is

pub line_b-requires : goal.line_b-requires
line_b-requires c = start 11 _ (omega arith) c.in-11.is

pub line_c-requires : goal.line_c-requires
line_c-requires c = start 12 _ (omega arith) c.in-12.is

pub line_d-requires : goal.line_d-requires
line_d-requires c = start 13 _ (omega arith) c.in-13.is

pub line_e-requires : goal.line_e-requires
line_e-requires c = start 14 _ (omega arith) c.in-14.is

pub line_f-requires : goal.line_f-requires
line_f-requires c =
    let w = c.args.word % 0x1_0000 in
    let h = rest 15 (w / 0x1000) c.in_default.in_default-own.rest in
    start 15 w (omega arith) (omega arith)

pub returns-in-0 : goal.returns-in-0
returns-in-0 c = c.line_0.ensures ∙ row_of_mod c.args.word

pub returns-in-1 : goal.returns-in-1
returns-in-1 c = c.line_1.ensures ∙ row_of_mod c.args.word

pub returns-in-2 : goal.returns-in-2
returns-in-2 c = c.line_2.ensures ∙ row_of_mod c.args.word

pub returns-in-3 : goal.returns-in-3
returns-in-3 c = c.line_3.ensures ∙ row_of_mod c.args.word

pub returns-in-4 : goal.returns-in-4
returns-in-4 c = c.line_4.ensures ∙ row_of_mod c.args.word

pub returns-in-5 : goal.returns-in-5
returns-in-5 c = c.line_5.ensures ∙ row_of_mod c.args.word

pub returns-in-6 : goal.returns-in-6
returns-in-6 c = c.line_6.ensures ∙ row_of_mod c.args.word

pub returns-in-7 : goal.returns-in-7
returns-in-7 c = c.line_7.ensures ∙ row_of_mod c.args.word

pub returns-in-8 : goal.returns-in-8
returns-in-8 c = c.line_8.ensures ∙ row_of_mod c.args.word

pub returns-in-9 : goal.returns-in-9
returns-in-9 c = c.line_9.ensures ∙ row_of_mod c.args.word

pub returns-in-10 : goal.returns-in-10
returns-in-10 c = c.line_a.ensures ∙ row_of_mod c.args.word

pub returns-in-11 : goal.returns-in-11
returns-in-11 c = c.line_b.ensures ∙ row_of_mod c.args.word

pub returns-in-12 : goal.returns-in-12
returns-in-12 c = c.line_c.ensures ∙ row_of_mod c.args.word

pub returns-in-13 : goal.returns-in-13
returns-in-13 c = c.line_d.ensures ∙ row_of_mod c.args.word

pub returns-in-14 : goal.returns-in-14
returns-in-14 c = c.line_e.ensures ∙ row_of_mod c.args.word

pub returns-in_default : goal.returns-in_default
returns-in_default c = c.line_f.ensures ∙ row_of_mod c.args.word
