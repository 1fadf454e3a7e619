-- `turns::room_in` meets its contract: a buffer has room for half as many records as it has words.
-- Assumes nothing.
use borrow.Author.Rules.{rules}
use Rattle.rules.proofs.Listing.{room_is}
use Rattle.turns.proofs.room_in.Statement.{statement}
use Rattle.turns.proofs.room_in.Tie as tie

returns : tie.Need-returns-then-len-lt-BUDGET
returns c = rw room_is (search rules)

returns_2 : tie.Need-returns-else-len-lt-BUDGET
returns_2 c = rw room_is (search rules)

pub room_in_spec : {M : Type 1} → statement M
room_in_spec = tie.close (tie.spec returns returns_2)
