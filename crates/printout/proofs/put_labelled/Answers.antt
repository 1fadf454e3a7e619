-- `put_labelled` meets its contract: the number stands behind its label.
use Rattle.lines.proofs.Putting.{then}
use Rattle.printout.proofs.put_labelled.Goals as goal

pub returns : goal.returns
returns c = then c.put_text.ensures c.put_decimal.ensures
