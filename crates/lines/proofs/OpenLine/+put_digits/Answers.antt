-- `OpenLine::put_digits` meets its contract, by the digits of the tenth.
use Rattle.std.proofs.Common.{rules}
use Rattle.lines.proofs.Putting.{no_digit, only_digit, last_digit}
use Rattle.lines.proofs.OpenLine.+put_digits.Goals as goal
use Rattle.lines.proofs.OpenLine.+put_digits.Goals.{then-n-ge10, else-n-ge10}

pub returns-then-most-eq0 : goal.returns-then-most-eq0
returns-then-most-eq0 t c = no_digit _ _ (search rules)

pub returns : goal.returns
returns t c =
    elim c.if-n-ge10.branch [
      | then-n-ge10 w ↦ last_digit _ _ (search rules) (search rules) w.put_digits.ensures (rw w.self-is at c.put_byte.ensures)
      | else-n-ge10 w ↦ only_digit _ _ (search rules) (search rules) (rw w.self-is at c.put_byte.ensures)
    ]
