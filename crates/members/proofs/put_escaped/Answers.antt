-- `put_escaped` meets its contract.
use Rattle.lines.proofs.Putting.{then}
use Rattle.members.proofs.put_escaped.Goals as goal

pub returns : goal.returns
returns c = then c.put_byte.ensures c.put_byte-2.ensures
