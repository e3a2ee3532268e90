-- `srecord_write::write::put_text` meets its contract: what is left to put gives the same. Assumes nothing.
use Rattle.std.proofs.Common.{◌≡◌, min, length, length-append, arith, sym, ap, ◌∙◌}
use Rattle.std.proofs.lemmas.List.Edits.{sets}
use Rattle.std.specs.Slice.Iter.{chunks_rest}
use Rattle.srecord_write.proofs.WriteLaws.{text_next, text_fits, text_last}
use Rattle.srecord_write.proofs.write.put_text.Goals as goal

pub loop-data-preserved : goal.loop-data-preserved
loop-data-preserved c =
    let l = c.loop-data in
    let p = c.put_line-at in
    let s = c.in-Some.ensures.steps in
    let bs = chunks_rest l.data-iterator in
    let xs = c.in-Some.data.now in
    let ys = chunks_rest c.next.new.self in
    let n : length xs ≡ min 16 (length bs) = rw l.invariant.size at s.1.1 in
    record {
      size = s.0 ∙ l.invariant.size;
      inside = λ h. omega (arith, l.invariant.inside s.1.2, ap length s.1.0, length-append xs ys, n);
      fits = omega (arith, p.auto.text, text_fits l.text p.new.text bs xs ys l.address c.args.start l.at p.result s.1.0 n s.1.2 p.ensures (length l.text) l.invariant.fits);
      same = text_next l.text p.new.text bs xs ys l.address c.args.start l.at p.result s.1.0 n s.1.2 p.ensures _ l.invariant.same;
    }

pub returns : goal.returns
returns c =
    let l = c.loop-data in
    let s = c.in-None.ensures.steps in
    c.put_line.ensures.put ∙ ap (λ bs. sets l.text l.at bs) (sym (text_last l.address c.args.start (chunks_rest l.data-iterator) s.1.0)) ∙ l.invariant.same
