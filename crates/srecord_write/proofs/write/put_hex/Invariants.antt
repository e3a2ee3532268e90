-- `srecord_write::write::put_hex` meets its contract. Assumes nothing.
use Rattle.std.proofs.Common.{◌≡◌, take}
use Rattle.std.proofs.lemmas.List.Edits.{sets}
use Rattle.srecord.specs.Writing.{hexed}
use Rattle.srecord_write.proofs.write.put_hex.Given as goal

abbrev pub invariant-loop-i : goal.invariant-loop-i
invariant-loop-i l = l.text ≡ sets l.initial.text l.at (hexed (take l.i l.bytes))
