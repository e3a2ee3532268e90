use Rattle.instructions.specs.LineA.{load_moves, mac_with_load}
use Rattle.quick_bodies.proofs.LoadLaws.{spotted, was_ok}
use Rattle.quick_bodies.proofs.mac.load_spot.Goals as goal
use Rattle.quick_bodies.proofs.mac.load_spot.Goals.{in-2, in-3, in-4, in-5+in_ok-d-in-5}

pub returns : goal.returns
unfolding mac_with_load load_moves
returns c = λ sr macsr.
    elim c.match-op-rem8.branch [
      | in-2 w ↦
          rw (w.at-is, w.in-2.is, ← c.address-r.ensures, ← w.plus.ensures) (spotted _ _ _ _ _ _ _ _ _ _ _ w.load_address.ensures (rw w.in-2.is w.no_write.ensures))
      | in-3 w ↦
          rw (w.at-is, w.in-3.is, ← c.address-r.ensures, ← w.plus-in-3.ensures)
          (spotted _ _ _ _ _ _ _ _ _ _ _ w.load_address-a.ensures (rw w.in-3.is (rw w.plus-in-3-2.ensures at w.write_address.ensures)))
      | in-4 w ↦
          rw (w.at-is, w.in-4.is, ← c.address-r.ensures, ← w.minus.ensures, ← w.plus-in-4.ensures)
          (spotted _ _ _ _ _ _ _ _ _ _ _ w.load_address-a-in-4.ensures (rw w.in-4.is w.write_address-in-4.ensures))
      | in-5+in_ok-d-in-5 w ↦
          rw (w.at-is, w.in-5.is, ← c.address-r.ensures, ← w.plus-in-5.ensures, ← w.load.ensures, was_ok _ _ w.in_ok-d-in-5.ensures.value, ← w.sign_extended.ensures, ← w.plus-in-5-2.ensures, ← w.plus-in-5-3.ensures)
          (spotted _ _ _ _ _ _ _ _ _ _ _ w.load_address-a-in-5.ensures (rw w.in-5.is w.no_write-in-5.ensures))
    ]
