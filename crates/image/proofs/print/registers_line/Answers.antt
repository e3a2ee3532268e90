-- What was put is the registers passed.
use Rattle.std.proofs.Common.{◌≡◌, length, arith}
use Rattle.image.proofs.PrintLaws.{appended_none, appended-line, longs-none, longs-put}
use Rattle.image.proofs.print.registers_line.Goals as goal

pub loop-v-init : goal.loop-v-init
loop-v-init c = rw (longs-none, appended_none)

pub loop-v-preserved : goal.loop-v-preserved
loop-v-preserved c = rw (c.put_hex.ensures, c.put.ensures, c.loop-v.invariant, longs-put)

pub returns : goal.returns
returns c =
    let all : c.loop-v.v-index ≡ length c.args.registers.now = omega arith in
    rw (c.put-2.ensures, c.loop-v.invariant, c.put_all.ensures, c.as_bytes.ensures.value, appended-line, all)
