-- `srecord_line::hex::HexBytes::store` meets its contract. Assumes nothing.
use Rattle.std.proofs.Common.{[], arith, ap, ◌∙◌, sym}
use Rattle.std.proofs.lemmas.List.{length-map}
use Rattle.srecord_line.specs.Pairs.{pair_value, values}
use Rattle.std.proofs.lemmas.List.Edits.{sets}
use Rattle.srecord_line.proofs.HexLaws.{store_more, paste_sets}
use Rattle.srecord_line.proofs.hex.HexBytes.store.Goals as goal

pub loop-i-preserved : goal.loop-i-preserved
loop-i-preserved c =
    let l = c.loop-i in
    let pair = c.value.ensures.0 (c.self.invariant l.i [] c.loop-i-test.true) in
    store_more c.self.inside.pairs.now c.args.mem.now l.mem c.args.at l.i c.value.result l.invariant (rw (sym c.self.view_is) at c.requires) c.loop-i-test.true pair.0

pub returns : goal.returns
returns c =
    let l = c.loop-i in
    let ps = c.self.inside.pairs.now in
    l.invariant ∙ paste_sets c.args.mem.now c.args.at (values ps) l.i (omega (arith, length-map ps pair_value, c.loop-i-test.false, l.auto.i-end)) (rw (sym c.self.view_is) at c.requires)
    ∙ ap (λ bs. sets c.args.mem.now c.args.at bs) c.self.view_is
