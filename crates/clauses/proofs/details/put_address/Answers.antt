-- `put_address` meets its contract: twelve digits between words.
use Rattle.lines.proofs.Putting.{then}
use Rattle.clauses.specs.Clauses.{address_text}
use Rattle.clauses.proofs.details.put_address.Goals as goal

pub returns : goal.returns
unfolding address_text
returns c = then (then c.put_text.ensures c.put_hex.ensures) c.put_text-2.ensures
