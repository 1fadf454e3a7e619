-- `standing_on` meets its contract: what is left, or what begins here.
use borrow.Author.Tests.{eq-eqb, ne_eqb}
use Rattle.names.specs.Names.{standing_on}
use Rattle.names.proofs.standing_on.Goals as goal

pub returns-then-left-eq0 : goal.returns-then-left-eq0
unfolding standing_on
returns-then-left-eq0 c = simp (eq-eqb _ _ c.if-left-eq0.true) c.standing.ensures

pub returns-else-left-eq0 : goal.returns-else-left-eq0
unfolding standing_on
returns-else-left-eq0 c = simp (ne_eqb _ _ c.if-left-eq0.false)
