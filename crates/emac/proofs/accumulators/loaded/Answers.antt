use Rattle.emac.proofs.MoveLaws.{load_fi_pos, load_fi_neg, load-su, load_pos, load-neg}
use Rattle.std.proofs.Common.{rules}
use Rattle.std.proofs.Common.{inl, inr}
use Rattle.emac.proofs.accumulators.loaded.Goals as goal

pub returns-then-v-lt2147483648 : goal.returns-then-v-lt2147483648
returns-then-v-lt2147483648 c = let x = c.args in load_fi_pos x.k x.v (search rules) c.if-k.true c.if-v-lt2147483648.true

pub returns-else-v-lt2147483648 : goal.returns-else-v-lt2147483648
returns-else-v-lt2147483648 c = let x = c.args in load_fi_neg x.k x.v (search rules) c.if-k.true c.if-v-lt2147483648.false

pub returns-then-v-lt2147483648-2 : goal.returns-then-v-lt2147483648-2
returns-then-v-lt2147483648-2 c =
    let x = c.args in
    elim c.if-v-lt2147483648-2.either [ inl u ↦ load-su x.k x.v (search rules) c.if-k.false u | inr h ↦ load_pos x.k x.v (search rules) c.if-k.false h.0 h.1 ]

pub returns-else-v-lt2147483648-2 : goal.returns-else-v-lt2147483648-2
returns-else-v-lt2147483648-2 c = let x = c.args in let h = c.if-v-lt2147483648-2.false in load-neg x.k x.v (search rules) c.if-k.false h.0 h.1
