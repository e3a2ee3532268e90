-- `arith::divide::by_magnitudes` meets its contract: each pair of signs by its law. Assumes nothing.
use mathlib.Core.Path.{◌∙◌}
use native.Mathlib.Omega.{arith}
use Rattle.arith.proofs.DivideLaws.{size_some, pos_pos, pos_neg, neg_pos, neg-neg, too_large}
use Rattle.arith.proofs.divide.by_magnitudes.Goals as goal

pub nonzero_div-q : goal.nonzero_div-q
nonzero_div-q c =
    omega (arith, c.magnitude-d.ensures, size_some c.args.b c.requires c.ranges.b.fits)

pub nonzero_rem-r : goal.nonzero_rem-r
nonzero_rem-r c =
    omega (arith, c.magnitude-d.ensures, size_some c.args.b c.requires c.ranges.b.fits)

pub returns-then-b-lt2147483648 : goal.returns-then-b-lt2147483648
returns-then-b-lt2147483648 c =
    c.fitting.ensures
    ∙ pos_pos c.args.a c.args.b _ _ c.ranges.a.fits c.ranges.b.fits c.magnitude-n.ensures c.magnitude-d.ensures c.requires
    c.if-a-lt2147483648.true c.if-b-lt2147483648.true

pub returns-then-a-lt2147483648 : goal.returns-then-a-lt2147483648
returns-then-a-lt2147483648 c =
    c.fitting-then-a-lt2147483648.ensures
    ∙ pos_neg c.args.a c.args.b _ _ c.ranges.a.fits c.ranges.b.fits c.magnitude-n.ensures c.magnitude-d.ensures c.requires
    c.if-a-lt2147483648.true c.if-b-lt2147483648.false _ c.minus.ensures

pub returns-then-b-lt2147483648-2 : goal.returns-then-b-lt2147483648-2
returns-then-b-lt2147483648-2 c =
    c.fitting-then-b-lt2147483648-2.ensures
    ∙ neg_pos c.args.a c.args.b _ _ c.ranges.a.fits c.ranges.b.fits c.magnitude-n.ensures c.magnitude-d.ensures c.requires
    c.if-a-lt2147483648.false c.if-b-lt2147483648-2.true _ _ c.minus-then-b-lt2147483648-2.ensures c.minus-then-b-lt2147483648-2-2.ensures

pub returns-then-q-lt2147483648 : goal.returns-then-q-lt2147483648
returns-then-q-lt2147483648 c =
    c.fitting-then-q-lt2147483648.ensures
    ∙ neg-neg c.args.a c.args.b _ _ c.ranges.a.fits c.ranges.b.fits c.magnitude-n.ensures c.magnitude-d.ensures c.requires
    c.if-a-lt2147483648.false c.if-b-lt2147483648-2.false c.if-q-lt2147483648.true _ c.minus-then-q-lt2147483648.ensures

pub returns : goal.returns
returns c =
    too_large c.args.a c.args.b _ _ c.ranges.a.fits c.ranges.b.fits c.magnitude-n.ensures c.magnitude-d.ensures c.requires
    c.if-a-lt2147483648.false c.if-b-lt2147483648-2.false c.if-q-lt2147483648.false
