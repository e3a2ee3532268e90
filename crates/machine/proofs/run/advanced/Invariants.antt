-- After n steps what is left to do, done from the state that stands, is what the call was asked for.
use Rattle.std.proofs.Common.{◌≡◌, ◌≤◌, ◌-◌, length, true}
use Rattle.manual.specs.Registers.{with_parts}
use Rattle.manual.specs.Emac.{emac_of}
use Rattle.manual.specs.Reply.{is_done}
use Rattle.manual.specs.Lent.{lent, first_refusal}
use Rattle.machine.specs.Advance.{progress}
use Rattle.machine.proofs.run.advanced.Given as goal

abbrev pub invariant-loop-n : goal.invariant-loop-n
invariant-loop-n l =
    (l.n ≤ l.budget) × (length l.mem ≡ length l.initial.mem)
    × (is_done (first_refusal (with_parts l.g l.pc l.sr (emac_of l.macsr l.mask l.acc) l.rest) (lent l.mem)) ≡ true)
    × (progress (l.budget - l.n) l.n l.vector (with_parts l.g l.pc l.sr (emac_of l.macsr l.mask l.acc) l.rest) (lent l.mem) ≡ progress l.budget 0 0 l.initial.rest (lent l.initial.mem))
