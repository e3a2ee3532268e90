-- `srecord_line::hex::scan` meets its contract. Assumes nothing.
use Rattle.std.proofs.Common.{◌<◌, length, arith, refl}
use Rattle.srecord.specs.Records.{total}
use Rattle.srecord_line.proofs.HexLaws.{scan_right, scan_sum, unscanned_odd, unscanned_wrong, scanned_right}
use Rattle.srecord_line.proofs.hex.scan.Goals as goal

pub returns-in_default : goal.returns-in_default
returns-in_default c = unscanned_odd c.args.digits.now (omega (arith, c.as_chunks.ensures.back_len, c.in_default.len_at_least))

pub loop-high-init : goal.loop-high-init
unfolding total
loop-high-init c = record { right = refl; low = omega arith; sum = λ e. refl }

pub loop-high-preserved : goal.loop-high-preserved
loop-high-preserved c =
    let l = c.loop-high in
    let ps = c.as_chunks.result.0.now in
    let t : l.high-index < length ps = omega (arith, c.loop-high-test.true) in
    record {
      right = rw (c.is_digit.ensures.0, c.is_digit-in-loop-high.ensures.0) (scan_right ps l.high-index l.right l.sum t l.invariant.right);
      low = omega arith;
      sum = scan_sum ps l.high-index l.right l.sum t l.invariant.right c.worth.result c.worth-in-loop-high.result c.worth.ensures.0 c.worth-in-loop-high.ensures.0 l.invariant.sum;
    }

pub returns-then-right-eq0 : goal.returns-then-right-eq0
returns-then-right-eq0 c =
    let l = c.loop-high in
    unscanned_wrong c.args.digits.now c.as_chunks.result.0.now c.as_chunks.ensures.front (omega (arith, c.as_chunks.ensures.back_len, c.in_default-empty.len_below))
    l.high-index l.right l.sum c.loop-high-test.false l.invariant.right c.if-right-eq0.true

pub returns : goal.returns
returns c =
    let l = c.loop-high in
    scanned_right c.args.digits.now c.as_chunks.result.0.now c.as_chunks.ensures.front (omega (arith, c.as_chunks.ensures.back_len, c.in_default-empty.len_below))
    l.high-index l.right l.sum c.loop-high-test.false l.invariant.right c.if-right-eq0.false l.invariant.sum
