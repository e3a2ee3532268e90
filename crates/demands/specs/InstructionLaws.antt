-- Which reads every instruction makes, those of `Accesses.reads`, and what it does then, as `Effects.effect` says. A refusal of any
-- instruction is that of a read, reply 4. Assumes nothing.
use Prim.Native.Nat.{ℕ}
use Rattle.std.proofs.Math.Bool.{true, false}
use Rattle.std.specs.Prelude.{List}
use Rattle.manual.specs.declared.Size.TheVariants.{Byte, Word, Long}
use Rattle.manual.specs.declared.Emac.{Emac}
use Rattle.manual.specs.declared.Change.{Change}
use Rattle.manual.specs.Fields.{line}
use Rattle.manual.specs.Memory.{Memory}
use Rattle.instructions.specs.Rows.{first_row, row_of}
use Rattle.instructions.specs.Step.{instruction}
use Rattle.instructions.specs.Line0 as l0
use Rattle.instructions.specs.Moves as moves
use Rattle.instructions.specs.Line4 as l4
use Rattle.instructions.specs.Line5 as l5
use Rattle.instructions.specs.Line6 as l6
use Rattle.instructions.specs.Line7 as l7
use Rattle.instructions.specs.Line8 as l8
use Rattle.instructions.specs.Line9D as l9
use Rattle.instructions.specs.LineA as la
use Rattle.instructions.specs.LineB as lb
use Rattle.instructions.specs.LineC as lc
use Rattle.instructions.specs.LineE as le
use Rattle.instructions.specs.LineF as lf
use Rattle.demands.specs.Accesses as acc
use Rattle.demands.specs.Accesses.{none, Wanted}
use Rattle.demands.specs.Effects as eff
use Rattle.demands.specs.Effects.{Effect}
use Rattle.demands.specs.PartLaws.{Made, end, row, all_made}
use Rattle.demands.specs.BodyLaws.{line0-made, moves-made, line4-made, sums-made, line5-made, line6-made, line7-made, line8-made, line_b-made, line_c-made, line_e-made, line_f-made, line_a-made}

module _ (g : List ℕ) (at sr other : ℕ) (e : Emac) (m : Memory) (op : ℕ) where
  abbrev its_reads : List Wanted
  its_reads = acc.reads g at m op e.mask

  abbrev its_effect : Effect
  its_effect = eff.effect g at sr m op

  abbrev its_change : Change
  its_change = instruction g at sr other e m op

  -- it is refused at the first of its reads that is not inside, and has its effect where all are
  pub instruction-made : Made at sr m its_reads its_effect its_change
  unfolding acc.reads eff.effect instruction
  instruction-made =
      let n : ℕ = row_of op in
      all_made at sr m
      (row (acc.reads0 g at m op n) (eff.effects0 g at sr m op n) (l0.line0 n g at sr m op) (line0-made g at sr m op n)
      (row (acc.reads_moves g at m op (first_row 1) Byte n) (eff.effects_moves g at sr m op (first_row 1) Byte n) (moves.line1 n g at sr m op) (moves-made g at sr m op (first_row 1) Byte n)
      (row (acc.reads_moves g at m op (first_row 2) Long n) (eff.effects_moves g at sr m op (first_row 2) Long n) (moves.line2 n g at sr m op) (moves-made g at sr m op (first_row 2) Long n)
      (row (acc.reads_moves g at m op (first_row 3) Word n) (eff.effects_moves g at sr m op (first_row 3) Word n) (moves.line3 n g at sr m op) (moves-made g at sr m op (first_row 3) Word n)
      (row (acc.reads4 g at m op n) (eff.effects4 g at sr m op n) (l4.line4 n g at sr other m op) (line4-made g at sr m op other n)
      (row (acc.reads5 g at m op n) (eff.effects5 g at sr m op n) (l5.line5 n g at sr m op) (line5-made g at sr m op n)
      (row (acc.reads6 g at m op n) (eff.effects6 g at sr m op n) (l6.line6 n g at sr m op) (line6-made g at sr m op n)
      (row (acc.reads7 g at m op n) (eff.effects7 g at sr m op n) (l7.line7 n g at sr m op) (line7-made g at sr m op n)
      (row (acc.reads8 g at m op n) (eff.effects8 g at sr m op n) (l8.line8 n g at sr m op) (line8-made g at sr m op n)
      (row (acc.reads9_d g at m op (first_row 9) n) (eff.effects9_d g at sr m op (first_row 9) false n) (l9.line9 n g at sr m op) (sums-made g at sr m op (first_row 9) false n)
      (row (acc.reads_a g at m op e.mask n) (eff.effects_a g at sr m op n) (la.line_a n g at sr e m op) (line_a-made g at sr m op e n)
      (row (acc.reads_b g at m op n) (eff.effects_b g at sr m op n) (lb.line_b n g at sr m op) (line_b-made g at sr m op n)
      (row (acc.reads_c g at m op n) (eff.effects_c g at sr m op n) (lc.line_c n g at sr m op) (line_c-made g at sr m op n)
      (row (acc.reads9_d g at m op (first_row 0xD) n) (eff.effects9_d g at sr m op (first_row 0xD) true n) (l9.line_d n g at sr m op) (sums-made g at sr m op (first_row 0xD) true n)
      (row none (eff.effects_e g at sr m op n) (le.line_e n g at sr op) (line_e-made g at sr m op n)
      (row (acc.reads_f g at m op n) (eff.effects_f g at sr m op n) (lf.line_f n g at sr m op) (line_f-made g at sr m op n)
      end))))))))))))))))
      (line op)
