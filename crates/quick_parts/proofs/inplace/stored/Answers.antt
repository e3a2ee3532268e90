use Rattle.quick_parts.proofs.StoreLaws.{refused_store}
use Rattle.quick_parts.proofs.inplace.stored.Goals as goal

pub returns-in_err-ok : goal.returns-in_err-ok
returns-in_err-ok c = let s = c.store.ensures in rw (c.from_residual.ensures, s.1, refused_store _ _ _ _ _ s.0 c.in_err-ok.ensures.value)
