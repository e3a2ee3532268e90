use Rattle.std.proofs.Common.{sym}
use Rattle.manual.specs.Address.{destination_of}
use Rattle.quick_parts.specs.Near.{at as spot_at, put_second}
use Rattle.instructions.specs.Moves.{move as move_of}
use Rattle.quick_bodies.proofs.moves.move_read.Goals as goal

pub returns : goal.returns
unfolding move_of destination_of
returns c = λ at h.
    let k = spot_at _ _ _ c.in_ok-at.was (c.spot.ensures _ (sym c.address_after-a.ensures)) in
    rw (h, ← c.move_codes-codes.ensures, put_second _ _ _ _ _ _ _ _ k _, ← c.store-c.ensures) c.stored.ensures
