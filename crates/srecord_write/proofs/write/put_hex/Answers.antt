-- `srecord_write::write::put_hex` meets its contract. Assumes nothing.
use Rattle.std.proofs.Common.{arith, ap, ◌∙◌}
use Rattle.std.proofs.lemmas.List.{take_all}
use Rattle.std.proofs.lemmas.List.Edits.{sets}
use Rattle.srecord.specs.Writing.{hexed}
use Rattle.srecord_write.proofs.WriteLaws.{hex_more, length_hexed}
use Rattle.srecord_write.proofs.write.put_hex.Goals as goal

pub loop-i-preserved : goal.loop-i-preserved
loop-i-preserved c =
    rw (c.digit.ensures, c.digit-in-loop-i.ensures) (hex_more c.args.text.now c.loop-i.text c.args.bytes.now c.args.at c.loop-i.i c.loop-i-test.true c.loop-i.invariant)

pub returns : goal.returns
returns c =
    let a = c.args in
    let l = c.loop-i in
    record {
      put = l.invariant ∙ ap (λ bs. sets a.text.now a.at (hexed bs)) (take_all l.i a.bytes.now c.loop-i-test.false);
      behind = omega (arith, length_hexed a.bytes.now);
    }
