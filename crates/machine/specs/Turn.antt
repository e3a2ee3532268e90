-- An instruction done in place, of a state in its parts: the state and storage after it, or as they were where it is left.
use Rattle.std.specs.Prelude.{ℕ, List, Option, Some, None}
use Rattle.manual.specs.declared.Cpu.{Cpu}
use Rattle.manual.specs.declared.Emac.{Emac}
use Rattle.manual.specs.Registers.{with_parts}
use Rattle.manual.specs.Memory.{Storage}
use Rattle.manual.specs.Reply.{Outcome, completed}

-- what stands at the next address, or at the same one
abbrev pub turned : Option ℕ → ℕ → List ℕ → ℕ → Emac → Cpu → Storage → Outcome
turned (Some next) pc g sr e rest b = completed (with_parts g next sr e rest) 0 b
turned None pc g sr e rest b = completed (with_parts g pc sr e rest) 0 b

-- the next address says that the step was done, none that nothing was
abbrev pub agreed_turn : Option ℕ → Outcome → Outcome → Outcome
agreed_turn (Some next) step before = step
agreed_turn None step before = before
