-- `put_size` meets its contract: empty, or so many bytes.
use Rattle.std.proofs.Common.{rules}
use borrow.Author.Tests.{eq-eqb, ne_eqb}
use Rattle.lines.proofs.Putting.{then, at_most}
use Rattle.clauses.specs.Clauses.{size_text}
use Rattle.clauses.proofs.details.put_size.Goals as goal

pub returns-then-n-eq0 : goal.returns-then-n-eq0
unfolding size_text
returns-then-n-eq0 c = simp (eq-eqb _ _ c.if-n-eq0.true) (at_most (search rules) c.put_text.ensures)

pub returns : goal.returns
unfolding size_text
returns c = simp (ne_eqb _ _ c.if-n-eq0.false) (then c.put_text-2.ensures c.put_bytes.ensures)
