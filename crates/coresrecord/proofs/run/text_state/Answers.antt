-- `coresrecord::run::text_state` meets its contract. Assumes nothing.
use Rattle.memory.specs.MemoryLaws.{value_two}
use Rattle.srecord.specs.TextRun.{text_state}
use Rattle.coresrecord.proofs.run.text_state.Goals as goal

pub returns : goal.returns
unfolding text_state
returns c =
    rw (
      c.with_sr.ensures,
      c.with_pc.ensures,
      c.with_address-cpu.ensures,
      c.fresh.ensures,
      c.long_at.ensures,
      c.from_be_bytes-sr.ensures,
      value_two,
    )
