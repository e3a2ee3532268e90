-- `memory::many::access_many` meets its contract: what is left to ask for gives what is due. Assumes nothing.
use Rattle.std.proofs.Common.{◌≡◌, ◌-◌, ◌≤◌}
use Rattle.manual.specs.Memory.{access_many}
use Rattle.memory.proofs.many.access_many.Given as goal

abbrev pub invariant-loop-n : goal.invariant-loop-n
invariant-loop-n l = (l.n ≤ 16) × (access_many (16 - l.n) l.mem l.mask l.at ≡ access_many 16 l.mem l.given l.start)
