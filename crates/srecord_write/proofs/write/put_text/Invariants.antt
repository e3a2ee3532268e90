-- `srecord_write::write::put_text` meets its contract: what is left to put gives the same. Assumes nothing.
use Rattle.std.proofs.Common.{◌≡◌, ◌+◌, ◌<◌, ◌≤◌, length}
use Rattle.std.proofs.lemmas.List.Edits.{sets}
use Rattle.std.specs.Slice.Iter.{chunks_rest, chunks_size}
use Rattle.manual.specs.Lent.{longest}
use Rattle.srecord_write.specs.Puts.{text_from, text_size}
use Rattle.srecord_write.proofs.write.put_text.Given as goal

abbrev pub invariant-loop-data : goal.invariant-loop-data
invariant-loop-data l =
    let rest = chunks_rest l.data-iterator in
    record {
      size : chunks_size l.data-iterator ≡ 16;
      inside : 0 < length rest → l.address + length rest ≤ longest;
      fits : l.at + text_size (length rest) ≤ length l.text;
      same : sets l.text l.at (text_from l.address rest l.start) ≡ sets l.initial.text 0 (text_from l.from l.bytes l.start);
    }
