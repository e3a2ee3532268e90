-- `arith::divide::magnitude` meets its contract. Assumes nothing.
use Rattle.arith.proofs.DivideLaws.{size_pos, size_neg}
use Rattle.arith.proofs.divide.magnitude.Goals as goal

pub returns-then-a-lt2147483648 : goal.returns-then-a-lt2147483648
returns-then-a-lt2147483648 c = size_pos c.args.a c.if-a-lt2147483648.true

pub returns-else-a-lt2147483648 : goal.returns-else-a-lt2147483648
returns-else-a-lt2147483648 c = size_neg c.args.a c.if-a-lt2147483648.false c.ranges.a.fits
