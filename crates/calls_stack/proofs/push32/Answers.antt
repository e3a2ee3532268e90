-- `calls_stack::push32` meets its contract: what is not stored leaves memory as it was. Assumes nothing.
use Rattle.memory.specs.MemoryLaws.{not-stored}
use Rattle.manual.specs.Exceptions.{push32 as push32_of}
use Rattle.calls_stack.proofs.push32.Goals as goal

pub returns-in-Err : goal.returns-in-Err
unfolding push32_of
returns-in-Err c =
    rw (← c.first_refusal-first.ensures, ← c.is_done.ensures, c.if-not-is_done.false, ← c.address.ensures, ← c.minus-sp.ensures, c.store.ensures.1, not-stored _ _ _ _ _ _ c.store.ensures.0 c.in-Err.is, ← c.store.ensures.0, c.in-Err.is, ← c.faulted.ensures)
