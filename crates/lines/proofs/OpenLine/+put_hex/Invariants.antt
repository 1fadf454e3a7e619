-- The measure of `OpenLine::put_hex` is the number of digits that it puts.
use Rattle.lines.proofs.OpenLine.+put_hex.Given as goal

abbrev pub decreases-put_hex : goal.decreases-put_hex
decreases-put_hex l = l.count
