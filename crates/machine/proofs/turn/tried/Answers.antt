-- What is left by one way is tried by the next, with nothing changed between.
use Rattle.std.specs.Prelude.{Some}
use Rattle.manual.specs.Emac.{emac_of}
use Rattle.machine.proofs.TurnLaws as turns
use Rattle.machine.proofs.turn.tried.Goals as goal

pub returns-in-Some : goal.returns-in-Some
returns-in-Some c = λ rest.
    let a = c.args in
    let e = emac_of a.macsr.now a.mask a.acc.now in
    let p = c.in_place in
    rw c.in-Some.is at (turns.in_place a.row a.pc a.other a.op rest a.g.now a.sr.now e a.mem.now p.new.g p.new.sr p.new.mem p.result (p.ensures a.other e))

pub returns-in-Some-summed : goal.returns-in-Some-summed
returns-in-Some-summed c = λ rest.
    let a = c.args in
    let e = emac_of a.macsr.now a.mask a.acc.now in
    let p = c.in_place in
    let h = rw c.in_default.is at (turns.in_place a.row a.pc a.other a.op rest a.g.now a.sr.now e a.mem.now p.new.g p.new.sr p.new.mem p.result (p.ensures a.other e)) in
    let s = c.summed in
    let k = rw c.in-Some-summed.is at (turns.in_unit a.row a.pc a.other a.op rest p.new.g p.new.sr a.macsr.now a.mask a.acc.now p.new.mem s.new.g s.new.macsr s.new.acc s.result (s.ensures p.new.sr a.other)) in
    turns.again a.row a.pc a.other a.op rest a.g.now a.sr.now e a.mem.now p.new.g p.new.sr e p.new.mem h (Some c.in-Some-summed.next) s.new.g p.new.sr (emac_of s.new.macsr a.mask s.new.acc) p.new.mem k

pub returns : goal.returns
returns c = λ rest.
    let a = c.args in
    let e = emac_of a.macsr.now a.mask a.acc.now in
    let p = c.in_place in
    let h = rw c.in_default.is at (turns.in_place a.row a.pc a.other a.op rest a.g.now a.sr.now e a.mem.now p.new.g p.new.sr p.new.mem p.result (p.ensures a.other e)) in
    let s = c.summed in
    let k = rw c.in_default-summed.is at (turns.in_unit a.row a.pc a.other a.op rest p.new.g p.new.sr a.macsr.now a.mask a.acc.now p.new.mem s.new.g s.new.macsr s.new.acc s.result (s.ensures p.new.sr a.other)) in
    let e' = emac_of s.new.macsr a.mask s.new.acc in
    let l = c.plain in
    let n = turns.in_place a.row a.pc a.other a.op rest s.new.g p.new.sr e' p.new.mem l.new.g l.new.sr l.new.mem l.result l.ensures in
    turns.again a.row a.pc a.other a.op rest a.g.now a.sr.now e a.mem.now p.new.g p.new.sr e p.new.mem h l.result l.new.g l.new.sr e' l.new.mem
    (turns.again a.row a.pc a.other a.op rest p.new.g p.new.sr e p.new.mem s.new.g p.new.sr e' p.new.mem k l.result l.new.g l.new.sr e' l.new.mem n)
