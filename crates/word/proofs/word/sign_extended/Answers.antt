use Rattle.manual.specs.Word.{cut}
use Rattle.manual.specs.declared.Size.TheVariants.{Byte, Word}
use Rattle.word.specs.WordLaws.{extended_pos, extended-neg, extended-long}
use Rattle.word.proofs.word.sign_extended.Goals as goal

pub returns-then-low-lt128 : goal.returns-then-low-lt128
unfolding cut
returns-then-low-lt128 c = rw c.in-Byte.is (extended_pos Byte _ c.if-low-lt128.true)

pub returns-else-low-lt128 : goal.returns-else-low-lt128
unfolding cut
returns-else-low-lt128 c = rw c.in-Byte.is (extended-neg Byte _ c.if-low-lt128.false)

pub returns-then-low-lt32768 : goal.returns-then-low-lt32768
unfolding cut
returns-then-low-lt32768 c = rw c.in-Word.is (extended_pos Word _ c.if-low-lt32768.true)

pub returns-else-low-lt32768 : goal.returns-else-low-lt32768
unfolding cut
returns-else-low-lt32768 c = rw c.in-Word.is (extended-neg Word _ c.if-low-lt32768.false)

pub returns-in-Long : goal.returns-in-Long
unfolding cut
returns-in-Long c = rw c.in-Long.is (extended-long _ c.ranges.v.fits)
