-- What one more read put behind the bytes that were there is what it consumed.
use Rattle.std.proofs.Common.{◌≡◌, ℕ, ◌+◌, ◌≤◌, List, ◌++◌, rules, length, take, subst, sym, length-take-le}
use Rattle.std.proofs.lemmas.List.{take-append-le}
use Rattle.std.proofs.Math.Seq.{take-append-add}
use Rattle.std.specs.Io.KnownBytes.{Consumes}
use Rattle.std.proofs.KnownBytes.{Consumes-trans}
use borrow.Rule.Slice.PartMut.{put_mid, post_of}
use Rattle.standard_input.proofs.read_full.Goals as goal

joined : (a k n : ℕ) (xs ys : List ℕ) → a ≤ length xs → n ≤ length ys → take a xs ++ take n ys ≡ take (a + n) (put_mid a k xs ys)
joined a k n xs ys within fits =
    sym (rw (length-take-le a xs within, take-append-le n ys (post_of a k xs) fits) at (take-append-add (take a xs) (ys ++ post_of a k xs) n))

pub loop-done-preserved : goal.loop-done-preserved
loop-done-preserved g c =
    let l = c.loop-done in
    let n = c.in_ok-n in (
      search rules,
      search rules,
      subst (Consumes _ _) (joined l.done _ n.n l.buf c.read.new.buf l.invariant.1 n.ensures.bound.0) (Consumes-trans _ _ _ _ _ l.invariant.2 n.ensures.bytes.0),
    )
