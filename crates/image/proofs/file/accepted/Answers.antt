-- `image::file::accepted` meets its contract. Assumes nothing.
use Rattle.std.proofs.Common.{◌≡◌, ◌+◌, ◌-◌, ◌≤◌, length, refl, sym, arith}
use borrow.Author.Tests.{ne_eqb}
use Rattle.manual.specs.Block.{head_bytes}
use Rattle.manual.specs.Image.{image_memory, program_at}
use Rattle.image.proofs.FileLaws.{reply-short, reply-version, reply-cut, reply-length, reply-state}
use Rattle.image.proofs.file.accepted.Goals as goal
use Rattle.image.proofs.file.accepted.Goals.{then-long_at-file-via-then-long_at-file, then-long_at-file-via-else-long_at-file+then-program-gt-IMAGE_MEMORY, then-long_at-file-via-else-long_at-file+else-program-gt-IMAGE_MEMORY+then-mem-ne-IMAGE_MEMORY}

pub returns-then-file-lt-HEAD_BYTES-clause-refused : goal.returns-then-file-lt-HEAD_BYTES-clause-refused
returns-then-file-lt-HEAD_BYTES-clause-refused c = (sym (reply-short _ _ c.if-file-lt-HEAD_BYTES.true), refl)

pub returns-then-file-ne1-clause-refused : goal.returns-then-file-ne1-clause-refused
returns-then-file-ne1-clause-refused c = (sym (reply-version _ _ c.if-file-lt-HEAD_BYTES.false (ne_eqb _ _ c.if-file-ne1.true)), refl)

pub returns-in_default-clause-refused : goal.returns-in_default-clause-refused
returns-in_default-clause-refused c =
    (sym (reply-cut _ _ c.if-file-lt-HEAD_BYTES.false c.if-file-ne1.false c.in_default.ensures.cases), refl)

pub returns-then-long_at-file-clause-refused : goal.returns-then-long_at-file-clause-refused
returns-then-long_at-file-clause-refused c =
    let p = c.in-Some.ensures.cases in
    let l : program_at ≤ length c.args.file.now = omega (arith, p.2) in
    let none : c.long_at.result ≡ length c.args.file.now - head_bytes → length c.args.file.now ≤ program_at + image_memory → length c.args.mem.now ≡ image_memory → ⊥ = λ e k d. elim c.then-long_at-file.branch [
      | then-long_at-file-via-then-long_at-file w ↦ omega arith
      | then-long_at-file-via-else-long_at-file+then-program-gt-IMAGE_MEMORY w ↦ omega (arith, p.2)
      | then-long_at-file-via-else-long_at-file+else-program-gt-IMAGE_MEMORY+then-mem-ne-IMAGE_MEMORY w ↦ omega arith
    ] in
    (sym (reply-length _ _ c.if-file-lt-HEAD_BYTES.false c.if-file-ne1.false _ l (rw (← p.0) c.long_at.ensures) none), refl)

pub returns-then-not-admitted-clause-refused : goal.returns-then-not-admitted-clause-refused
returns-then-not-admitted-clause-refused c =
    let p = c.in-Some.ensures.cases in
    (rw (reply-state _ _ c.if-file-lt-HEAD_BYTES.false c.if-file-ne1.false c.long_at.result (omega (arith, p.2)) (rw (← p.0) c.long_at.ensures) (omega arith) (omega (arith, p.2)) c.if-mem-ne-IMAGE_MEMORY.false, ← p.0, ← c.image_state.ensures, ← c.admitted.ensures, c.if-not-admitted.true), refl)

pub returns-clause-reply : goal.returns-clause-reply
returns-clause-reply c =
    let p = c.in-Some.ensures.cases in
    rw (reply-state _ _ c.if-file-lt-HEAD_BYTES.false c.if-file-ne1.false c.long_at.result (omega (arith, p.2)) (rw (← p.0) c.long_at.ensures) (omega arith) (omega (arith, p.2)) c.if-mem-ne-IMAGE_MEMORY.false, ← p.0, ← c.image_state.ensures, ← c.admitted.ensures, c.if-not-admitted.false)
