-- `put_both` meets its contract: the second text stands behind the first.
use Rattle.lines.proofs.Putting.{then}
use Rattle.clauses.proofs.parts.put_both.Goals as goal

pub returns : goal.returns
returns c = then c.put_text.ensures c.put_text-2.ensures
