-- `srecord_read::read::start_of` meets its contract: what is left has the answer of the whole. Assumes nothing.
use Rattle.std.proofs.Common.{sym, refl}
use Rattle.std.proofs.lemmas.Result.{err_from_is_err_and}
use Rattle.srecord.specs.Reading.{end_of}
use Rattle.srecord_read.proofs.ReadLaws.{too_long, goes, ends, stops, ends_bad}
use Rattle.srecord_read.proofs.read.start_of.Goals as goal

pub returns-then-size-gt16777216 : goal.returns-then-size-gt16777216
returns-then-size-gt16777216 c = (too_long c.args.text.now c.args.size c.if-size-gt16777216.true, refl)

pub returns-in_err-start : goal.returns-in_err-start
returns-in_err-start c =
    let a = c.args in
    let b = c.in-Some in
    let p = err_from_is_err_and c.from_residual.result c.from_residual.ensures.1 in
    rw (p.1, p.2)
    (stops a.size c.loop-line.rest.now a.text.now c.if-size-gt16777216.false c.loop-line.invariant b.line.now b.after.now b.ensures
    c.judge.result (rw c.bare.ensures at c.judge.ensures) c.in_err-start.field-0.0 c.in_err-start.was)

pub returns-then-not-clear : goal.returns-then-not-clear
unfolding end_of
returns-then-not-clear c =
    let a = c.args in
    let b = c.in-Some in
    let e = ends a.size c.loop-line.rest.now a.text.now c.if-size-gt16777216.false c.loop-line.invariant b.line.now b.after.now b.ensures
    c.judge.result (rw c.bare.ensures at c.judge.ensures) c.in-Some-2.start (rw c.in-Some-2.is at c.in_ok-start.was) in
    ((rw (sym c.if-not-clear.ensures) at e), refl)

pub returns-in-Some-2 : goal.returns-in-Some-2
unfolding end_of
returns-in-Some-2 c =
    let a = c.args in
    let b = c.in-Some in
    let e = ends a.size c.loop-line.rest.now a.text.now c.if-size-gt16777216.false c.loop-line.invariant b.line.now b.after.now b.ensures
    c.judge.result (rw c.bare.ensures at c.judge.ensures) c.in-Some-2.start (rw c.in-Some-2.is at c.in_ok-start.was) in
    ((rw (sym c.if-not-clear.ensures) at e), tt)

pub loop-line-preserved : goal.loop-line-preserved
loop-line-preserved c =
    let a = c.args in
    let b = c.in-Some in
    goes a.size c.loop-line.rest.now a.text.now c.if-size-gt16777216.false c.loop-line.invariant b.line.now b.after.now b.ensures
    c.judge.result (rw c.bare.ensures at c.judge.ensures) (rw c.in_default-2.is at c.in_ok-start.was)

pub returns : goal.returns
returns c =
    (ends_bad c.args.size c.loop-line.rest.now c.args.text.now c.if-size-gt16777216.false c.loop-line.invariant c.in_default.ensures, refl)
