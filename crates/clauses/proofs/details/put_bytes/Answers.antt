-- `put_bytes` meets its contract: one byte, or any other number of them.
use Rattle.std.proofs.Common.{rules}
use borrow.Author.Tests.{eq-eqb, ne_eqb}
use Rattle.lines.proofs.Putting.{at_most}
use Rattle.clauses.specs.Clauses.{bytes_text}
use Rattle.clauses.proofs.details.put_bytes.Goals as goal

pub returns-then-n-eq1 : goal.returns-then-n-eq1
unfolding bytes_text
returns-then-n-eq1 c = simp (eq-eqb _ _ c.if-n-eq1.true) (at_most (search rules) c.put_count.ensures)

pub returns-else-n-eq1 : goal.returns-else-n-eq1
unfolding bytes_text
returns-else-n-eq1 c = simp (ne_eqb _ _ c.if-n-eq1.false) c.put_count-else-n-eq1.ensures
