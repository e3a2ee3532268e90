use Rattle.std.proofs.Common.{arith, rules, ltb-true, ltb-false, ap, ◌∙◌, sym}
use Rattle.std.proofs.lemmas.Result.{err_from_is_err_and}
use Rattle.srecord_line.specs.Lines.{record_of}
use Rattle.srecord_line.proofs.LineLaws.{said_short, said_other, said_unknown, said_record, unknown_error, rest_of}
use Rattle.srecord_line.proofs.line.said.Goals as goal
use Rattle.srecord_line.proofs.line.said.Goals.{in_default-via-then-line-lt2, in_default-via-else-line-lt2+in_default-1}

pub returns-in_default : goal.returns-in_default
returns-in_default c =
    elim c.in_default.branch [
      | in_default-via-then-line-lt2 w ↦ said_short c.args.line.now (omega (arith, ltb-true))
      | in_default-via-else-line-lt2+in_default-1 w ↦ said_other c.args.line.now (omega (arith, ltb-false)) (search rules)
    ]

pub returns-in_err-kind : goal.returns-in_err-kind
returns-in_err-kind c =
    let p = err_from_is_err_and c.from_residual.result c.from_residual.ensures.1 in
    let k = c.in_err-kind.ensures in
    rw (p.1, p.2, unknown_error c.kind_of.result c.in_err-kind.field-0.0 k.ok_part k.value)
    (said_unknown c.args.line.now c.in-83.len_at_least (search rules) (sym c.kind_of.ensures ∙ k.ok_part))

pub returns : goal.returns
returns c =
    let l = c.args.line.now in
    c.record.ensures ∙ ap record_of (rw (rest_of l) (said_record c.in_ok-kind.kind l c.in-83.len_at_least (search rules) (sym c.kind_of.ensures ∙ c.in_ok-kind.ensures.ok_part)))
