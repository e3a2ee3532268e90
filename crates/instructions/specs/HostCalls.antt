-- The calls of a host on a state block and a memory: the state is read from the block, the call is made, and where it was done the new
-- state is stored in the block; otherwise the block is unchanged. The answer is the reply's number; for a step and for a run with 256 times
-- the vector and the count. Document: "The host harness".
use Rattle.std.specs.Prelude.{ℕ, ◌+◌, ◌*◌, Option}
use mathlib.Core.{Bool.cond, List.List}
use lib.{Dec.eqb}
use Rattle.manual.specs.declared.{Cpu.Cpu, Answer.Answer, Reply.Reply}
use Rattle.manual.specs.{Reply.Outcome, Reply.number_of, Reply.is_done, Memory.Storage, Lent.Lent, Lent.or_else, Lent.lent_refusal, Exceptions.exception, Exceptions.interrupt, Exceptions.rte, Block.read_block, Block.store_block}
use Rattle.instructions.specs.{Step.step, Run.RunOutcome, Run.run}

-- the answer, and the block and storage after it
pub record Called : Type 0 where
  pub answer : ℕ
  pub block : List ℕ
  pub storage : Storage

abbrev pub called : ℕ → List ℕ → Storage → Called
called n b m = record { answer = n; block = b; storage = m }

-- the reply to a block: where its state is not admitted, what is lent is refused before it
unfoldable pub block_reply : Reply → Lent → Reply
block_reply n l = cond (eqb (number_of n) 2) (or_else (lent_refusal l) n) n

-- the state that a block holds, or the reply that refuses it
abbrev pub opened : List ℕ → Lent → Answer
opened b l = record { reply = block_reply (read_block b).reply l; cpu = (read_block b).cpu }

abbrev pub block_refused : Answer → List ℕ → Lent → Called
block_refused r b l = called (number_of (block_reply r.reply l)) b l.storage

-- the block after a call: it holds the new state where the call was done
unfoldable pub block_after : Reply → Cpu → List ℕ → List ℕ
block_after n s b = cond (is_done n) (store_block s b).bytes b

-- a call with the outcome o on the state that r read from the block b; the vector counts w times
unfoldable pub on_block : ℕ → Answer → Outcome → List ℕ → Lent → Called
on_block w r o b l =
    cond (is_done r.reply)
    (called (number_of o.stepped.reply + w * o.stepped.vector) (block_after o.stepped.reply o.stepped.cpu b) o.storage)
    (block_refused r b l)

unfoldable pub exception_on : List ℕ → Lent → ℕ → ℕ → Option ℕ → Called
exception_on b l vector pc level = let r : Answer = read_block b in on_block 0 r (exception r.cpu l vector pc level) b l

unfoldable pub interrupt_on : List ℕ → Lent → ℕ → ℕ → Called
interrupt_on b l vector level = let r : Answer = read_block b in on_block 0 r (interrupt r.cpu l vector level) b l

unfoldable pub rte_on : List ℕ → Lent → Called
rte_on b l = let r : Answer = read_block b in on_block 0 r (rte r.cpu l) b l

unfoldable pub step_on : List ℕ → Lent → Called
step_on b l = let r : Answer = read_block b in on_block 256 r (step r.cpu l) b l

-- a run: the block holds the state after the steps that were done, and is unchanged where there were none
unfoldable pub run_on : List ℕ → Lent → ℕ → Called
run_on b l budget =
    let r : Answer = read_block b in
    let o : RunOutcome = run budget r.cpu l in
    cond (is_done r.reply)
    (called (number_of o.ran.reply + 256 * o.ran.count) (cond (eqb o.ran.count 0) b (store_block o.ran.cpu b).bytes) o.storage)
    (block_refused r b l)
