use Prim.Native.Nat.{ℕ, ◌≤◌}
use native.Mathlib.Omega.{arith}
use lib.ListN.{get_or-eq_default}
use Rattle.word.specs.TestLaws.{other_row}
use Rattle.instructions.specs.Rows.{row_count, first_row, place_in}
use Rattle.instructions.specs.Line4.{line4 as line4_of}
use Rattle.line4.proofs.line4.instruction.Goals as goal

pub returns-in_default : goal.returns-in_default
unfolding line4_of place_in
returns-in_default c =
    let row : ℕ = c.args.row in
    let past : 40 ≤ place_in (first_row 4) row = other_row (first_row 4) 40 row_count row (omega arith) c.in_default.in_default-own.rest in
    rw get_or-eq_default c.illegal-in_default.ensures

pub nop-requires : goal.nop-requires
unfolding line4_of place_in
nop-requires c = tt

pub stop-requires : goal.stop-requires
unfolding line4_of place_in
stop-requires c = tt

pub rte-requires : goal.rte-requires
unfolding line4_of place_in
rte-requires c = tt

pub rts-requires : goal.rts-requires
unfolding line4_of place_in
rts-requires c = tt

pub movec-requires : goal.movec-requires
unfolding line4_of place_in
movec-requires c = tt

pub movec-requires-in-25 : goal.movec-requires-in-25
unfolding line4_of place_in
movec-requires-in-25 c = tt

pub halt-requires : goal.halt-requires
unfolding line4_of place_in
halt-requires c = tt

pub nop-requires-in-27 : goal.nop-requires-in-27
unfolding line4_of place_in
nop-requires-in-27 c = tt

pub illegal-requires : goal.illegal-requires
unfolding line4_of place_in
illegal-requires c = tt

pub stldsr-requires : goal.stldsr-requires
unfolding line4_of place_in
stldsr-requires c = tt

pub extb-requires : goal.extb-requires
unfolding line4_of place_in
extb-requires c = tt

pub link-requires : goal.link-requires
unfolding line4_of place_in
link-requires c = tt

pub unlk-requires : goal.unlk-requires
unfolding line4_of place_in
unlk-requires c = tt

pub move_to_usp-requires : goal.move_to_usp-requires
unfolding line4_of place_in
move_to_usp-requires c = tt

pub move_from_usp-requires : goal.move_from_usp-requires
unfolding line4_of place_in
move_from_usp-requires c = tt

pub move_from_ccr-requires : goal.move_from_ccr-requires
unfolding line4_of place_in
move_from_ccr-requires c = tt

pub swap-requires : goal.swap-requires
unfolding line4_of place_in
swap-requires c = tt

pub ext_w-requires : goal.ext_w-requires
unfolding line4_of place_in
ext_w-requires c = tt

pub ext_l-requires : goal.ext_l-requires
unfolding line4_of place_in
ext_l-requires c = tt

pub sats-requires : goal.sats-requires
unfolding line4_of place_in
sats-requires c = tt

pub negx-requires : goal.negx-requires
unfolding line4_of place_in
negx-requires c = tt

pub neg-requires : goal.neg-requires
unfolding line4_of place_in
neg-requires c = tt

pub not-requires : goal.not-requires
unfolding line4_of place_in
not-requires c = tt

pub trap-requires : goal.trap-requires
unfolding line4_of place_in
trap-requires c = tt

pub jsr-requires : goal.jsr-requires
unfolding line4_of place_in
jsr-requires c = tt

pub jmp-requires : goal.jmp-requires
unfolding line4_of place_in
jmp-requires c = tt

pub move_from_sr-requires : goal.move_from_sr-requires
unfolding line4_of place_in
move_from_sr-requires c = tt

pub illegal-requires-in-47 : goal.illegal-requires-in-47
unfolding line4_of place_in
illegal-requires-in-47 c = tt

pub move_to_ccr-requires : goal.move_to_ccr-requires
unfolding line4_of place_in
move_to_ccr-requires c = tt

pub move_to_sr-requires : goal.move_to_sr-requires
unfolding line4_of place_in
move_to_sr-requires c = tt

pub pea-requires : goal.pea-requires
unfolding line4_of place_in
pea-requires c = tt

pub movem-requires : goal.movem-requires
unfolding line4_of place_in
movem-requires c = tt

pub movem-requires-in-52 : goal.movem-requires-in-52
unfolding line4_of place_in
movem-requires-in-52 c = tt

pub mul_l-requires : goal.mul_l-requires
unfolding line4_of place_in
mul_l-requires c = tt

pub div_l-requires : goal.div_l-requires
unfolding line4_of place_in
div_l-requires c = tt

pub tas-requires : goal.tas-requires
unfolding line4_of place_in
tas-requires c = tt

pub clr-requires : goal.clr-requires
unfolding line4_of place_in
clr-requires c = tt

pub tst-requires : goal.tst-requires
unfolding line4_of place_in
tst-requires c = tt

pub lea-requires : goal.lea-requires
unfolding line4_of place_in
lea-requires c = tt

pub illegal-requires-in-59 : goal.illegal-requires-in-59
unfolding line4_of place_in
illegal-requires-in-59 c = tt

pub illegal-requires-in_default : goal.illegal-requires-in_default
unfolding line4_of place_in
illegal-requires-in_default c = tt

pub returns-in-20 : goal.returns-in-20
unfolding line4_of place_in
returns-in-20 c = rw (c.in-20.is, ← c.nop.ensures)

pub returns-in-21 : goal.returns-in-21
unfolding line4_of place_in
returns-in-21 c = rw (c.in-21.is, ← c.stop.ensures)

pub returns-in-22 : goal.returns-in-22
unfolding line4_of place_in
returns-in-22 c = rw (c.in-22.is, ← c.rte.ensures)

pub returns-in-23 : goal.returns-in-23
unfolding line4_of place_in
returns-in-23 c = rw (c.in-23.is, ← c.rts.ensures)

pub returns-in-24 : goal.returns-in-24
unfolding line4_of place_in
returns-in-24 c = rw (c.in-24.is, ← c.movec.ensures)

pub returns-in-25 : goal.returns-in-25
unfolding line4_of place_in
returns-in-25 c = rw (c.in-25.is, ← c.movec-in-25.ensures)

pub returns-in-26 : goal.returns-in-26
unfolding line4_of place_in
returns-in-26 c = rw (c.in-26.is, ← c.halt.ensures)

pub returns-in-27 : goal.returns-in-27
unfolding line4_of place_in
returns-in-27 c = rw (c.in-27.is, ← c.nop-in-27.ensures)

pub returns-in-28 : goal.returns-in-28
unfolding line4_of place_in
returns-in-28 c = rw (c.in-28.is, ← c.illegal.ensures)

pub returns-in-29 : goal.returns-in-29
unfolding line4_of place_in
returns-in-29 c = rw (c.in-29.is, ← c.stldsr.ensures)

pub returns-in-30 : goal.returns-in-30
unfolding line4_of place_in
returns-in-30 c = rw (c.in-30.is, ← c.extb.ensures)

pub returns-in-31 : goal.returns-in-31
unfolding line4_of place_in
returns-in-31 c = rw (c.in-31.is, ← c.link.ensures)

pub returns-in-32 : goal.returns-in-32
unfolding line4_of place_in
returns-in-32 c = rw (c.in-32.is, ← c.unlk.ensures)

pub returns-in-33 : goal.returns-in-33
unfolding line4_of place_in
returns-in-33 c = rw (c.in-33.is, ← c.move_to_usp.ensures)

pub returns-in-34 : goal.returns-in-34
unfolding line4_of place_in
returns-in-34 c = rw (c.in-34.is, ← c.move_from_usp.ensures)

pub returns-in-35 : goal.returns-in-35
unfolding line4_of place_in
returns-in-35 c = rw (c.in-35.is, ← c.move_from_ccr.ensures)

pub returns-in-36 : goal.returns-in-36
unfolding line4_of place_in
returns-in-36 c = rw (c.in-36.is, ← c.swap.ensures)

pub returns-in-37 : goal.returns-in-37
unfolding line4_of place_in
returns-in-37 c = rw (c.in-37.is, ← c.ext_w.ensures)

pub returns-in-38 : goal.returns-in-38
unfolding line4_of place_in
returns-in-38 c = rw (c.in-38.is, ← c.ext_l.ensures)

pub returns-in-39 : goal.returns-in-39
unfolding line4_of place_in
returns-in-39 c = rw (c.in-39.is, ← c.sats.ensures)

pub returns-in-40 : goal.returns-in-40
unfolding line4_of place_in
returns-in-40 c = rw (c.in-40.is, ← c.negx.ensures)

pub returns-in-41 : goal.returns-in-41
unfolding line4_of place_in
returns-in-41 c = rw (c.in-41.is, ← c.neg.ensures)

pub returns-in-42 : goal.returns-in-42
unfolding line4_of place_in
returns-in-42 c = rw (c.in-42.is, ← c.not.ensures)

pub returns-in-43 : goal.returns-in-43
unfolding line4_of place_in
returns-in-43 c = rw (c.in-43.is, ← c.trap.ensures)

pub returns-in-44 : goal.returns-in-44
unfolding line4_of place_in
returns-in-44 c = rw (c.in-44.is, ← c.jsr.ensures)

pub returns-in-45 : goal.returns-in-45
unfolding line4_of place_in
returns-in-45 c = rw (c.in-45.is, ← c.jmp.ensures)

pub returns-in-46 : goal.returns-in-46
unfolding line4_of place_in
returns-in-46 c = rw (c.in-46.is, ← c.move_from_sr.ensures)

pub returns-in-47 : goal.returns-in-47
unfolding line4_of place_in
returns-in-47 c = rw (c.in-47.is, ← c.illegal-in-47.ensures)

pub returns-in-48 : goal.returns-in-48
unfolding line4_of place_in
returns-in-48 c = rw (c.in-48.is, ← c.move_to_ccr.ensures)

pub returns-in-49 : goal.returns-in-49
unfolding line4_of place_in
returns-in-49 c = rw (c.in-49.is, ← c.move_to_sr.ensures)

pub returns-in-50 : goal.returns-in-50
unfolding line4_of place_in
returns-in-50 c = rw (c.in-50.is, ← c.pea.ensures)

pub returns-in-51 : goal.returns-in-51
unfolding line4_of place_in
returns-in-51 c = rw (c.in-51.is, ← c.movem.ensures)

pub returns-in-52 : goal.returns-in-52
unfolding line4_of place_in
returns-in-52 c = rw (c.in-52.is, ← c.movem-in-52.ensures)

pub returns-in-53 : goal.returns-in-53
unfolding line4_of place_in
returns-in-53 c = rw (c.in-53.is, ← c.mul_l.ensures)

pub returns-in-54 : goal.returns-in-54
unfolding line4_of place_in
returns-in-54 c = rw (c.in-54.is, ← c.div_l.ensures)

pub returns-in-55 : goal.returns-in-55
unfolding line4_of place_in
returns-in-55 c = rw (c.in-55.is, ← c.tas.ensures)

pub returns-in-56 : goal.returns-in-56
unfolding line4_of place_in
returns-in-56 c = rw (c.in-56.is, ← c.clr.ensures)

pub returns-in-57 : goal.returns-in-57
unfolding line4_of place_in
returns-in-57 c = rw (c.in-57.is, ← c.tst.ensures)

pub returns-in-58 : goal.returns-in-58
unfolding line4_of place_in
returns-in-58 c = rw (c.in-58.is, ← c.lea.ensures)

pub returns-in-59 : goal.returns-in-59
unfolding line4_of place_in
returns-in-59 c = rw (c.in-59.is, ← c.illegal-in-59.ensures)
