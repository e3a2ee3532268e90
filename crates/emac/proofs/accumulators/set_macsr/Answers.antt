use Rattle.std.proofs.Common.{◌≡◌, rules}
use Rattle.manual.specs.Emac.{reinterpreted}
use Rattle.emac.proofs.MoveLaws.{set_macsr-is}
use Rattle.emac.proofs.accumulators.set_macsr.Goals as goal

pub returns : goal.returns
returns c =
    let x = c.args in let o = c.fractional-old in let n = c.fractional-new in
    let m = c.map-acc.ensures.items in
    let a = m.each in let b = a.6 in let d = b.6 in let f = d.6 in
    let ea : a.2 ≡ reinterpreted o.result n.result a.1 = search rules in
    let eb : b.2 ≡ reinterpreted o.result n.result b.1 = search rules in
    let ed : d.2 ≡ reinterpreted o.result n.result d.1 = search rules in
    let ef : f.2 ≡ reinterpreted o.result n.result f.1 = search rules in
    set_macsr-is x.e x.v _ _ _ (search rules) m.long o.ensures n.ensures _ _ _ _ (a.3.1 0) (b.3.1 0) (d.3.1 0) (f.3.1 0) _ _ _ _ (a.4.1 0) (b.4.1 0) (d.4.1 0) (f.4.1 0) ea eb ed ef
