-- The measure of `OpenLine::put_digits` is the number of digits that it may put.
use Rattle.lines.proofs.OpenLine.+put_digits.Given as goal

abbrev pub decreases-put_digits : goal.decreases-put_digits
decreases-put_digits l = l.most
