-- `turns::turn::is_second` meets its contract.
-- Assumes nothing.
use borrow.Author.Rules.{rules}
use Rattle.turns.proofs.turn.is_second.Statement.{statement}
use Rattle.turns.proofs.turn.is_second.Tie as tie

returns : tie.Need-returns-in-First
returns c = rw c.in-First.is

returns_2 : tie.Need-returns-in-Second
returns_2 c = rw c.in-Second.is

pub is_second_spec : {M : Type 1} → statement M
is_second_spec = tie.close (tie.spec (λ c. search rules) (λ c. search rules) returns returns_2)
