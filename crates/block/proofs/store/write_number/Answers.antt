-- `block::store::write_number` meets its contract: what is left to store, stored, gives what is due. Assumes nothing.
use Rattle.std.proofs.Common.{◌≡◌, ◌+◌, ◌-◌, sym, ◌∙◌, arith}
use Rattle.memory.specs.MemoryLaws.{store_step}
use Rattle.block.proofs.store.write_number.Goals as goal

pub loop-k-preserved : goal.loop-k-preserved
loop-k-preserved c =
    let l = c.loop-k in let n = c.args.n in
    let next : n - (l.k + 1) ≡ n - l.k - 1 = omega arith in
    let place : n - 1 - l.k ≡ n - l.k - 1 = omega arith in
    rw (next, place) (sym (store_step l.block c.args.at (n - l.k) l.w (omega arith)) ∙ l.invariant)
