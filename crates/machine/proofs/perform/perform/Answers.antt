-- `machine::perform::perform` meets its contract. Assumes nothing.
use Rattle.memory.specs.MemoryLaws.{not-stored}
use Rattle.instructions.specs.Perform.{perform as perform_of}
use Rattle.machine.proofs.perform.perform.Goals as goal

pub returns-in-Err : goal.returns-in-Err
unfolding perform_of
returns-in-Err c =
    rw (← c.applied-cpu.ensures, c.in-Store.is, c.store.ensures.1, not-stored _ _ _ _ _ _ c.store.ensures.0 c.in-Err.is, ← c.store.ensures.0, c.in-Err.is, ← c.faulted.ensures)
