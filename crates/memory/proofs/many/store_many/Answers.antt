-- `memory::many::store_many` meets its contract. Assumes nothing.
use Rattle.std.proofs.Common.{◌≡◌, Err, refl, rules}
use Rattle.memory.proofs.many.store_many.Goals as goal

pub returns-in_err-access_many : goal.returns-in_err-access_many
returns-in_err-access_many c =
    let e : c.from_residual.result ≡ Err c.in_err-access_many.field-0.0 = search rules in
    rw e (c.in_err-access_many.ensures, refl)
