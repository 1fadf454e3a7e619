-- `put_digits_quoted` meets its contract: the digits between quotation marks.
use Rattle.lines.proofs.Putting.{then}
use Rattle.members.proofs.put_digits_quoted.Goals as goal

pub returns : goal.returns
returns c = then (then c.put_byte.ensures c.put_hex.ensures) c.put_byte-2.ensures
