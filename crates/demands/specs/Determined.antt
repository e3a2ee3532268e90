-- What a promise allows is determined. A public function's contract is an equation `outcome ≡ definition`, where the outcome is the
-- answer and all that is lent, at exit, and the definition is said of what was given. That every contract has this form is tested
-- on its text (tools/promises). Document: "Any two outcomes allowed by a statement are proved equal". Assumes nothing.
use Rattle.std.specs.Prelude.{◌≡◌}
use Rattle.std.proofs.Common.{sym, ◌∙◌}

pub record Determined : Type 1 where
  -- any two outcomes that such a contract allows are equal
  pub equal : {Outcome : Type 0} (definition one two : Outcome) → one ≡ definition → two ≡ definition → one ≡ two

-- ---- the proofs

pub determined : Determined
determined = record { equal = λ definition one two p q. p ∙ sym q }
