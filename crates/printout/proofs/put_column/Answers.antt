-- `put_column` meets its contract: the byte stands behind the number.
use Rattle.lines.proofs.Putting.{then}
use Rattle.printout.proofs.put_column.Goals as goal

pub returns : goal.returns
returns c = then c.put_decimal.ensures c.put_byte.ensures
