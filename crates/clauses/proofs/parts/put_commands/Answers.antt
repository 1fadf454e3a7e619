-- `put_commands` meets its contract: one command, or any other number of them.
use Rattle.std.proofs.Common.{rules}
use borrow.Author.Tests.{eq-eqb, ne_eqb}
use Rattle.lines.proofs.Putting.{at_most}
use Rattle.clauses.specs.Clauses.{commands_text}
use Rattle.clauses.proofs.parts.put_commands.Goals as goal

pub returns-then-count-eq1 : goal.returns-then-count-eq1
unfolding commands_text
returns-then-count-eq1 c = simp (eq-eqb _ _ c.if-count-eq1.true) (at_most (search rules) c.put_count.ensures)

pub returns-else-count-eq1 : goal.returns-else-count-eq1
unfolding commands_text
returns-else-count-eq1 c = simp (ne_eqb _ _ c.if-count-eq1.false) c.put_count-else-count-eq1.ensures
