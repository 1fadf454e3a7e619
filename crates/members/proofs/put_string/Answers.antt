-- `put_string` meets its contract: the text behind its key.
use Rattle.lines.proofs.Putting.{then}
use Rattle.members.proofs.put_string.Goals as goal

pub returns : goal.returns
returns c = then c.put_text.ensures c.put_quoted.ensures
