-- `replay::record::answers` meets its contract: what is lent is what the definition takes. Assumes nothing.
use Rattle.replay.specs.Asked.{answered}
use Rattle.replay.proofs.record.answers.Goals as goal

pub returns : goal.returns
unfolding answered
returns c = (
  rw (← c.from.ensures, ← c.min-b.ensures, ← c.from_be_bytes.ensures, ← c.from-2.ensures, ← c.min-m.ensures, ← c.made.ensures, ← c.expected.ensures),
  rw (← c.from.ensures, ← c.min-b.ensures, ← c.from_be_bytes.ensures, ← c.from-2.ensures, ← c.min-m.ensures, ← c.made.ensures),
  rw (← c.from.ensures, ← c.min-b.ensures, ← c.from_be_bytes.ensures, ← c.from-2.ensures, ← c.min-m.ensures, ← c.made.ensures),
)
