-- A digit less.
use Rattle.image.proofs.print.+put_hex.Given as goal

abbrev pub decreases-put_hex : goal.decreases-put_hex
decreases-put_hex l = l.digits
