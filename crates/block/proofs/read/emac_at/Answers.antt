use Rattle.std.proofs.Common.{◌≡◌, ◌%◌, ◌^◌, rules}
use Rattle.manual.specs.Block.{acc_number}
use Rattle.block.proofs.ReadLoops.{emac-is}
use Rattle.block.proofs.read.emac_at.Goals as goal

pub returns : goal.returns
returns c =
    let m = c.args.block.now in let i = c.from_fn.ensures.items in
    let a = i.each in let b = a.4 in let d = b.4 in let f = d.4 in
    let ea : a.1 ≡ acc_number m 0 % 2 ^ 48 = search rules in
    let eb : b.1 ≡ acc_number m 1 % 2 ^ 48 = search rules in
    let ed : d.1 ≡ acc_number m 2 % 2 ^ 48 = search rules in
    let ef : f.1 ≡ acc_number m 3 % 2 ^ 48 = search rules in
    emac-is m _ _ _ c.long_at.ensures c.long_at-2.ensures i.long _ _ _ _ (a.2.1 0) (b.2.1 0) (d.2.1 0) (f.2.1 0) ea eb ed ef
