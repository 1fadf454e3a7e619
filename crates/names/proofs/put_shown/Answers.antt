-- `put_shown` meets its contract: the byte as it is, or written out.
use Rattle.std.proofs.Common.{rules}
use borrow.Author.Tests.{eq-eqb, ne_eqb}
use Rattle.lines.proofs.Putting.{at_most}
use Rattle.names.specs.Names.{shown_byte}
use Rattle.names.proofs.put_shown.Goals as goal

pub returns-then-stands-eq0 : goal.returns-then-stands-eq0
unfolding shown_byte
returns-then-stands-eq0 c = simp (eq-eqb _ _ c.if-stands-eq0.true) c.put_written_out.ensures

pub returns-else-stands-eq0 : goal.returns-else-stands-eq0
unfolding shown_byte
returns-else-stands-eq0 c = simp (ne_eqb _ _ c.if-stands-eq0.false) (at_most (search rules) c.put_byte.ensures)
