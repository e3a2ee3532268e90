-- `srecord_line::line::record` meets its contract. Assumes nothing.
use Rattle.std.proofs.Common.{sym, ◌∙◌}
use Rattle.srecord_line.proofs.LineLaws.{hex_of, unread, unformed, wrong_sum, right_record}
use Rattle.srecord_line.proofs.line.record.Goals as goal

pub returns-in_default : goal.returns-in_default
returns-in_default c = unread c.args.kind c.args.digits.now c.in_default.ensures

pub returns-then-not-is_formed : goal.returns-then-not-is_formed
returns-then-not-is_formed c =
    let b = c.in-Some in
    unformed c.args.digits.now b.bytes b.sum (hex_of c.args.digits.now (b.bytes, b.sum) b.ensures) c.args.kind (sym c.is_formed.ensures ∙ c.if-not-is_formed.true)

pub returns-then-sum-ne255 : goal.returns-then-sum-ne255
returns-then-sum-ne255 c =
    let b = c.in-Some in
    wrong_sum c.args.digits.now b.bytes b.sum (hex_of c.args.digits.now (b.bytes, b.sum) b.ensures) c.args.kind (sym c.is_formed.ensures ∙ c.if-not-is_formed.false) c.if-sum-ne255.true

pub returns-in-Data : goal.returns-in-Data
returns-in-Data c =
    let b = c.in-Some in
    rw (c.address.ensures, c.payload.ensures, c.in-Data.is)
    (right_record c.args.digits.now b.bytes b.sum (hex_of c.args.digits.now (b.bytes, b.sum) b.ensures) _ (rw c.in-Data.is at (sym c.is_formed.ensures ∙ c.if-not-is_formed.false)) c.if-sum-ne255.false)

pub returns-in-End : goal.returns-in-End
returns-in-End c =
    let b = c.in-Some in
    rw (c.address-in-End.ensures, c.in-End.is)
    (right_record c.args.digits.now b.bytes b.sum (hex_of c.args.digits.now (b.bytes, b.sum) b.ensures) _ (rw c.in-End.is at (sym c.is_formed.ensures ∙ c.if-not-is_formed.false)) c.if-sum-ne255.false)

pub returns-in-Skipped : goal.returns-in-Skipped
returns-in-Skipped c =
    let b = c.in-Some in
    rw c.in-Skipped.is
    (right_record c.args.digits.now b.bytes b.sum (hex_of c.args.digits.now (b.bytes, b.sum) b.ensures) _ (rw c.in-Skipped.is at (sym c.is_formed.ensures ∙ c.if-not-is_formed.false)) c.if-sum-ne255.false)
