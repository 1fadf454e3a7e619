-- `OpenLine::put_hex` meets its contract, by the digits of the sixteenth.
use Rattle.std.proofs.Common.{rules}
use Rattle.lines.proofs.Putting.{no_hex, last_hex}
use Rattle.lines.proofs.OpenLine.+put_hex.Goals as goal

pub returns-then-count-eq0 : goal.returns-then-count-eq0
returns-then-count-eq0 t c = no_hex _ _ (search rules)

pub returns : goal.returns
returns t c = last_hex _ _ (search rules) c.put_hex.ensures c.hex_digit.ensures c.put_byte.ensures
