-- The registers after a write. Assumes nothing.
use Rattle.std.specs.Prelude.{◌≡◌, ℕ, ◌+◌, ◌%◌, List, length, ◌≢◌}
use Rattle.std.proofs.Math.Path.{sym}
use Rattle.std.proofs.Common.{arith, get_or-set_other}
use Rattle.std.proofs.Math.Seq.{get_or-set_same}
use borrow.Author.Tests.{lt-ltb, le-ltb}
use Rattle.manual.specs.declared.Write.{Write}
use Rattle.manual.specs.Registers.{address_of, written}
use Rattle.word.specs.TestLaws.{by-lt}

module _ (w : Write) (g : List ℕ) (r : ℕ) where
  -- what was written
  pub address-written : length g ≡ 16 → w.to ≡ 8 + r % 8 → w.value ≡ address_of (written w g) r
  unfolding address_of written
  address-written l e = sym (rw (← e, lt-ltb w.to 16 (omega arith), get_or-set_same g w.to w.value 0 (omega arith)))

  -- what was not
  pub address_kept : (w.to ≢ 8 + r % 8) → address_of g r ≡ address_of (written w g) r
  unfolding address_of written
  address_kept e = by-lt w.to 16
      (λ h. rw (lt-ltb w.to 16 h) (sym (get_or-set_other g w.to (8 + r % 8) w.value 0 (λ f. e (sym f)))))
      (λ h. rw (le-ltb w.to 16 h))
