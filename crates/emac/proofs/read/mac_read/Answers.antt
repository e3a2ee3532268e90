use Rattle.std.proofs.Common.{◌∙◌}
use Rattle.emac.specs.MacLaws.{taken}
use Rattle.emac.proofs.ReadLaws.{word, long, integer, whole_long}
use Rattle.emac.proofs.read.mac_read.Goals as goal

pub returns-in-true-true : goal.returns-in-true-true
returns-in-true-true c =
    let v = c.value_of-r in let x = c.args in
    word x.mode x.a v.result _ (taken x.mode x.a _ v.ensures).value c.in-true-true.is-0 c.in-true-true.is-1 _ c.rounded.ensures c.clamped.ensures

pub returns-in-true-false : goal.returns-in-true-false
returns-in-true-false c =
    let v = c.value_of-r in let x = c.args in
    long x.mode x.a v.result _ (taken x.mode x.a _ v.ensures).value c.in-true-false.is-0 c.in-true-false.is-1 _ c.rounded-in-true-false.ensures c.clamped-in-true-false.ensures

pub returns-in-false-true : goal.returns-in-false-true
returns-in-false-true c = let x = c.args in c.unsigned_read.ensures ∙ whole_long x.mode x.a c.in-false-true.is-0 c.in-false-true.is-1

pub returns-in-false-false : goal.returns-in-false-false
returns-in-false-false c =
    let v = c.value_of-r in let x = c.args in
    integer x.mode x.a v.result _ (taken x.mode x.a _ v.ensures).value c.in-false-false.is-0 c.in-false-false.is-1 c.clamped-in-false-false.ensures
