-- `memory::many::load_all` meets its contract: what is left to load, loaded, gives what is due. Assumes nothing.
use Rattle.std.proofs.Common.{◌≡◌, ◌-◌, ◌≤◌}
use Rattle.manual.specs.Memory.{loaded_many}
use Rattle.memory.proofs.many.load_all.Given as goal

abbrev pub invariant-loop-n : goal.invariant-loop-n
invariant-loop-n l =
    (l.n ≤ 16) × (loaded_many (16 - l.n) l.mem l.n l.mask l.at l.g ≡ loaded_many 16 l.mem 0 l.given l.start l.initial.g)
