use Rattle.std.proofs.Common.{◌∙◌, lit<}
use Rattle.word.specs.SwapLaws.{low_fields, swapped, swapped-long, swap_law, turned-bits, turned-whole}
use Rattle.word.proofs.bits.reversed_bits.Goals as goal

pub returns : goal.returns
unfolding swapped low_fields
returns c =
    let v = c.args.v in
    let halves = swapped 16 1 v in
    let bytes = swapped 8 2 halves in
    let nibbles = swapped 4 4 bytes in
    let pairs = swapped 2 8 nibbles in
    turned-bits 32 _ (swapped-long 1 16 pairs (lit< tt))
    ∙ swap_law 1 16 pairs (lit< tt)
    ∙ swap_law 2 8 nibbles (lit< tt)
    ∙ swap_law 4 4 bytes (lit< tt)
    ∙ swap_law 8 2 halves (lit< tt)
    ∙ swap_law 16 1 v (lit< tt)
    ∙ turned-whole 32 v
