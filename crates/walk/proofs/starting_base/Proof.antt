-- `walk::starting_base` meets its contract: a case of the definition for each case of the choice.
-- Assumes nothing.
use borrow.Author.Rules.{rules}
use Rattle.walk.proofs.starting_base.Statement.{statement}
use Rattle.walk.proofs.starting_base.Tie as tie

returns : tie.Need-returns-in-StateWindow
returns c = rw c.in-StateWindow.is

pub starting_base_spec : {M : Type 1} → statement M
starting_base_spec = tie.close (tie.spec (λ c. search rules) (λ c. search rules) returns (λ c. search rules))
