use Rattle.std.proofs.Common.{le-ltb, lt-ltb}
use Rattle.arith.proofs.WordDivideLaws.{narrow}
use Rattle.arith.proofs.divide.signed_word_quotient.Goals as goal

pub returns-then-plus-lt65536 : goal.returns-then-plus-lt65536
returns-then-plus-lt65536 c =
    rw (← narrow _ _, ← c.sign_extended.ensures, ← c.signed_quotient.ensures, c.in_ok-long.was, ← c.plus.ensures, lt-ltb _ _ c.if-plus-lt65536.true) c.fitting.ensures

pub returns : goal.returns
returns c =
    rw (← narrow _ _, ← c.sign_extended.ensures, ← c.signed_quotient.ensures, c.in_ok-long.was, ← c.plus.ensures, le-ltb _ _ c.if-plus-lt65536.false)

pub returns-in_err-long : goal.returns-in_err-long
returns-in_err-long c =
    rw (← narrow _ _, ← c.sign_extended.ensures, ← c.signed_quotient.ensures, c.in_err-long.was) c.from_residual.ensures
