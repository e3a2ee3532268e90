use Rattle.std.proofs.Common.{arith, rules}
use Rattle.emac.specs.FlagLaws.{with_flags-is, with_flags-below}
use Rattle.emac.proofs.flags.with_flags.Goals as goal

pub overflow_add-result : goal.overflow_add-result
overflow_add-result c =
    let x = c.args in
    record { fits = rw (c.with_pav.ensures, c.low_flags.ensures.0, ← with_flags-is x.k x.macsr x.i x.over x.a) (with_flags-below x.k x.macsr x.i x.over x.a 32 (omega arith) (search rules)) }

pub returns : goal.returns
returns c = let x = c.args in rw (with_flags-is x.k x.macsr x.i x.over x.a, ← c.with_pav.ensures, ← c.low_flags.ensures.0)
