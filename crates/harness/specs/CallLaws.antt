-- A call on a block that is refused, and one that is made. Assumes nothing.
use Rattle.std.specs.Prelude.{ℕ, ◌+◌, ◌*◌, ◌≡◌, refl, Bool, cond, List, eqb}
use Rattle.std.proofs.Common.{sym, ◌∙◌, arith, eqb-true, ne_eqb}
use Rattle.std.proofs.Math.Path.{ap}
use Rattle.std.proofs.Math.Bool.{true, false}
use Rattle.manual.specs.declared.Cpu.{Cpu}
use Rattle.manual.specs.declared.Answer.{Answer}
use Rattle.manual.specs.declared.Stepped.{Stepped}
use Rattle.manual.specs.declared.Reply.{Reply}
use Rattle.manual.specs.Reply.{Outcome, outcome, number_of, is_done}
use Rattle.manual.specs.Memory.{Storage}
use Rattle.manual.specs.Lent.{Lent, or_else, lent_refusal}
use Rattle.manual.specs.Block.{read_block, store_block}
use Rattle.instructions.specs.HostCalls.{called, block_reply, opened, on_block, block_after}

-- a reply that is 2 is not done, and what is lent is refused by another
two_refused : (n : Reply) → eqb (number_of n) 2 ≡ true → is_done n ≡ false
two_refused n h = ne_eqb (number_of n) 0 (λ e. absurd (omega (arith, eqb-true (number_of n) 2 h)))

still_refused : (r n : Reply) (b : Bool) → is_done r ≡ b → is_done n ≡ false → is_done (cond b n r) ≡ false
still_refused r n true e h = h
still_refused r n false e h = e

pub done-kept : (n : Reply) (l : Lent) → is_done (block_reply n l) ≡ is_done n
unfolding block_reply
done-kept n l = by (eqb (number_of n) 2) refl
  where
    by : (b : Bool) → eqb (number_of n) 2 ≡ b → is_done (cond b (or_else (lent_refusal l) n) n) ≡ is_done n
    by true h = still_refused (lent_refusal l) n (is_done (lent_refusal l)) refl (two_refused n h) ∙ sym (two_refused n h)
    by false h = refl

-- ---- a block that was opened: x is what was found, d whether it was a state

module _ (b : List ℕ) (l : Lent) (x : Answer) (d : Bool) (found : x ≡ opened b l) (is : d ≡ is_done x.reply) where
  pub told : (e : Bool) → d ≡ e → is_done (read_block b).reply ≡ e
  told e h = sym (done-kept (read_block b).reply l) ∙ (sym (ap (λ (a : Answer). is_done a.reply) found) ∙ (sym is ∙ h))

  pub reply-is : x.reply ≡ block_reply (read_block b).reply l
  reply-is = ap (λ (a : Answer). a.reply) found

  pub refused-is : (w : ℕ) (o : Outcome) (n : ℕ) → d ≡ false → n ≡ number_of x.reply → called n b l.storage ≡ on_block w (read_block b) o b l
  unfolding on_block
  refused-is w o n refused number = rw (told false refused, number, reply-is)

  pub made-is : (w : ℕ) (call : Cpu → Outcome) (s : Stepped) (m' : Storage) (e : Bool) (b' : List ℕ) (n : ℕ) → d ≡ true → outcome s m' ≡ call x.cpu → e ≡ is_done s.reply
      → b' ≡ cond e (store_block s.cpu b).bytes b → n ≡ number_of s.reply + w * s.vector → called n b' m' ≡ on_block w (read_block b) (call (read_block b).cpu) b l
  unfolding on_block block_after
  made-is w call s m' e b' n read made done stored number =
      let o : outcome s m' ≡ call (read_block b).cpu = made ∙ ap (λ (a : Answer). call a.cpu) found in
      rw (told true read, ← o, number, stored, done)
