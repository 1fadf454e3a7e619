-- `put_number` meets its contract: the number behind its key.
use Rattle.lines.proofs.Putting.{then}
use Rattle.members.proofs.put_number.Goals as goal

pub returns : goal.returns
returns c = then c.put_text.ensures c.put_decimal.ensures
