-- What a call on a state and a memory gives on a block. Assumes nothing.
use Rattle.std.specs.Prelude.{ℕ, ◌+◌, ◌*◌, ◌≡◌, refl, Bool, cond, List}
use Rattle.std.proofs.Common.{MutBor, sym, ◌∙◌, subst}
use Rattle.std.proofs.Math.Path.{ap}
use Rattle.std.proofs.Math.Bool.{true, false}
use Rattle.manual.specs.declared.Cpu.{Cpu}
use Rattle.manual.specs.declared.Stepped.{Stepped}
use Rattle.manual.specs.declared.Answer.{Answer}
use Rattle.manual.specs.Reply.{Outcome, outcome, unchanged, number_of, is_done}
use Rattle.manual.specs.Lent.{lent, memory_of}
use Rattle.manual.specs.Block.{read_block, store_block}
use Rattle.instructions.specs.HostCalls.{called, opened, on_block}
use Rattle.harness.specs.CallLaws.{done-kept, refused-is, made-is}

-- the call, made on the state s and the memory m, has the outcome o; `post` is what it may give, with memory before and after it
pub record Gave (post : Cpu → MutBor (List ℕ) → Stepped → MutBor (List ℕ) → Type 0) (s : Cpu) (m : List ℕ) (o : Outcome) : Type 0 where
  pub shown : MutBor (List ℕ)
  pub left : MutBor (List ℕ)
  pub shows : shown.now ≡ m
  pub leaves : left.now ≡ o.storage
  pub met : post s shown o.stepped left

-- on the block b and the memory m: the answer n, and the block and memory after it. Where the block is refused no call is made
pub record IsOnBlock (post : Cpu → MutBor (List ℕ) → Stepped → MutBor (List ℕ) → Type 0) (w : ℕ) (b m : List ℕ) (n : ℕ) (b' m' : List ℕ) : Type 0 where
  pub given : Outcome
  pub gave : is_done (opened b (lent m)).reply ≡ true → Gave post (read_block b).cpu m given
  pub is : called n b' m' ≡ on_block w (read_block b) given b (lent m)

module _ (post : Cpu → MutBor (List ℕ) → Stepped → MutBor (List ℕ) → Type 0) (w : ℕ) (b m : List ℕ) where
  pub on_block-is : (n : ℕ) (b' m' : List ℕ) → IsOnBlock post w b m n b' m' → (call : Cpu → Outcome) → ((s : Cpu) (o : Outcome) → Gave post s m o → o ≡ call s)
      → called n b' m' ≡ on_block w (read_block b) (call (read_block b).cpu) b (lent m)
  unfolding on_block
  on_block-is n b' m' h call same = go (is_done (read_block b).reply) refl
    where
      go : (d : Bool) → is_done (read_block b).reply ≡ d → called n b' m' ≡ on_block w (read_block b) (call (read_block b).cpu) b (lent m)
      go true e = h.is ∙ ap (λ (o : Outcome). on_block w (read_block b) o b (lent m)) (same (read_block b).cpu h.given (h.gave (done-kept (read_block b).reply (lent m) ∙ e)))
      go false e = h.is ∙ rw e refl

  -- x is what was found in the block, d whether it was a state
  module _ (x : Answer) (d : Bool) (found : x ≡ opened b (lent m)) (is : d ≡ is_done x.reply) where
    done-is : is_done (opened b (lent m)).reply ≡ d
    done-is = sym (ap (λ (a : Answer). is_done a.reply) found) ∙ sym is

    pub refused-on : (n : ℕ) → d ≡ false → n ≡ number_of x.reply → IsOnBlock post w b m n b m
    refused-on n refused number =
        record {
          given = unchanged x.cpu x.reply (memory_of (lent m));
          gave = λ t. absurd (let e : true ≡ false = sym t ∙ (done-is ∙ refused) in cc);
          is = refused-is b (lent m) x d found is w _ n refused number;
        }

    pub made-on : (s : Stepped) (shown left : MutBor (List ℕ)) → shown.now ≡ m → post x.cpu shown s left → (e : Bool) (b' : List ℕ) (n : ℕ) → d ≡ true
        → e ≡ is_done s.reply → b' ≡ cond e (store_block s.cpu b).bytes b → n ≡ number_of s.reply + w * s.vector → IsOnBlock post w b m n b' left.now
    made-on s shown left shows met e b' n read done stored number =
        record {
          given = outcome s left.now;
          gave = λ t. record {
            shown = shown;
            left = left;
            shows = shows;
            leaves = refl;
            met = subst (λ (a : Answer). post a.cpu shown s left) found met;
          };
          is = made-is b (lent m) x d found is w (λ _. outcome s left.now) s left.now e b' n read refl done stored number;
        }
