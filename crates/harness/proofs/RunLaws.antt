-- A run on a block that is refused, and one that is made. Assumes nothing.
use Prim.Native.Nat.{ℕ, zero, suc, ◌+◌, ◌*◌}
use mathlib.Core.Path.{◌≡◌, refl, ap, ◌∙◌}
use mathlib.Core.Bool.{Bool, true, false, cond}
use mathlib.Core.List.{List}
use native.Mathlib.Omega.{arith}
use lib.Dec.{eqb, ltb}
use borrow.Author.Tests.{lt-ltb, ne_eqb}
use Rattle.manual.specs.declared.Answer.{Answer}
use Rattle.manual.specs.declared.Ran.{Ran}
use Rattle.manual.specs.Reply.{number_of, is_done}
use Rattle.manual.specs.Memory.{Storage}
use Rattle.manual.specs.Lent.{Lent}
use Rattle.manual.specs.Block.{read_block, store_block}
use Rattle.instructions.specs.Run.{run_outcome, run}
use Rattle.instructions.specs.HostCalls.{called, opened, run_on}
use Rattle.harness.specs.CallLaws.{told, reply-is}

positive : (k : ℕ) (y z : List ℕ) → cond (ltb 0 k) y z ≡ cond (eqb k 0) z y
positive zero y z = refl
positive (suc k) y z = rw (lt-ltb 0 (suc k) (omega arith), ne_eqb (suc k) 0 (λ e. omega arith))

-- x is what was found in the block, d whether it was a state
module _ (b : List ℕ) (l : Lent) (x : Answer) (d : Bool) (found : x ≡ opened b l) (is : d ≡ is_done x.reply) where
  pub refused-run : (budget n : ℕ) → d ≡ false → n ≡ number_of x.reply → called n b l.storage ≡ run_on b l budget
  unfolding run_on
  refused-run budget n refused number = rw (told b l x d found is false refused, number, reply-is b l x d found is)

  pub ran-is : (budget : ℕ) (r : Ran) (m' : Storage) (b' : List ℕ) (n : ℕ) → d ≡ true → run_outcome r m' ≡ run budget x.cpu l
      → b' ≡ cond (ltb 0 r.count) (store_block r.cpu b).bytes b → n ≡ number_of r.reply → called (n + 256 * r.count) b' m' ≡ run_on b l budget
  unfolding run_on
  ran-is budget r m' b' n read ran stored number =
      let o : run_outcome r m' ≡ run budget (read_block b).cpu l = ran ∙ ap (λ (a : Answer). run budget a.cpu l) found in
      rw (told b l x d found is true read, ← o, number, stored, positive)
