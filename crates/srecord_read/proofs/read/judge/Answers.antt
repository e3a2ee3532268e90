-- `srecord_read::read::judge` meets its contract. Assumes nothing.
use Rattle.std.proofs.Common.{sym, Ok, Err}
use Rattle.std.proofs.lemmas.Result.{err_from_is_err_and}
use Rattle.srecord.specs.Reading.{said as said_of}
use Rattle.srecord_line.specs.declared.Counted.TheVariants as counts
use Rattle.srecord_read.proofs.ReadLaws.{by_counted, by_count_inside, by_count_outside}
use Rattle.srecord_read.proofs.read.judge.Goals as goal

pub returns-in_err-a : goal.returns-in_err-a
returns-in_err-a c =
    let p = err_from_is_err_and c.from_residual.result c.from_residual.ensures.1 in
    rw (p.1, p.2) (by_counted c.args.size (Err c.in_err-a.field-0.0) (said_of c.args.line.now) c.in_err-a.ensures)

pub returns-then-inside : goal.returns-then-inside
returns-then-inside c =
    let d = c.in-Data in
    by_count_inside c.args.size d.a d.n (said_of c.args.line.now) (rw d.is at c.in_ok-a.ensures) (sym c.if-inside.ensures)

pub returns-else-inside : goal.returns-else-inside
returns-else-inside c =
    let d = c.in-Data in
    by_count_outside c.args.size d.a d.n (said_of c.args.line.now) (rw d.is at c.in_ok-a.ensures) (sym c.if-inside.ensures)

pub returns-in-End : goal.returns-in-End
returns-in-End c = by_counted c.args.size (Ok (counts.End c.in-End.start)) (said_of c.args.line.now) (rw c.in-End.is at c.in_ok-a.ensures)

pub returns-in-Skipped : goal.returns-in-Skipped
returns-in-Skipped c = by_counted c.args.size (Ok counts.Skipped) (said_of c.args.line.now) (rw c.in-Skipped.is at c.in_ok-a.ensures)
