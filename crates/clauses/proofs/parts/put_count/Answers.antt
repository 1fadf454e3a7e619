-- `put_count` meets its contract: the words stand behind the number.
use Rattle.lines.proofs.Putting.{then}
use Rattle.clauses.proofs.parts.put_count.Goals as goal

pub returns : goal.returns
returns c = then c.put_decimal.ensures c.put_text.ensures
