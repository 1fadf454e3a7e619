-- `put_dword` meets its contract: the digits between brackets.
use Rattle.lines.proofs.Putting.{then}
use Rattle.clauses.specs.Clauses.{dword_text}
use Rattle.clauses.proofs.parts.put_dword.Goals as goal

pub returns : goal.returns
unfolding dword_text
returns c = then (then c.put_byte.ensures c.put_hex.ensures) c.put_text.ensures
