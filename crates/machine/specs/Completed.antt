-- What a step answers that was done and entered no vector.
use Rattle.manual.specs.declared.Cpu.{Cpu}
use Rattle.manual.specs.declared.Reply.TheVariants.{Done}
use Rattle.manual.specs.declared.Stepped.{Stepped}

abbrev pub completed_step : Cpu → Stepped
completed_step s = record { reply = Done; vector = 0; cpu = s }
