-- `turns::stopped` meets its contract.
-- Assumes nothing.
use borrow.Author.Rules.{rules}
use borrow.Author.Tests.{eq-eqb, ne_eqb}
use Rattle.turns.proofs.stopped.Statement.{statement}
use Rattle.turns.proofs.stopped.Tie as tie

refusal_requires : tie.Need-refusal-requires
refusal_requires c κs = rw c.spent.ensures (search rules)

returns : tie.Need-returns-then-n-eq-BUDGET
returns c = rw (c.refusal.ensures, c.spent.ensures, eq-eqb _ _ c.if-n-eq-BUDGET.true)

returns_2 : tie.Need-returns
returns_2 c = rw (c.refusal-2.ensures, ne_eqb _ _ c.if-n-eq-BUDGET.false)

pub stopped_spec : {M : Type 1} → statement M
stopped_spec = tie.close (tie.spec (λ c κs. search rules) refusal_requires returns (λ c κs. search rules) returns_2)
