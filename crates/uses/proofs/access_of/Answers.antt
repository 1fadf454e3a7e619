-- A start's use, where the row is the start's.
-- Assumes nothing.
use Rattle.rules.specs.Uses.{uses_by_row, access_of}
use Rattle.uses.proofs.access_of.Goals as goal

pub returns-in-2 : goal.returns-in-2
unfolding uses_by_row access_of
returns-in-2 c = rw c.in-2.is c.start_use.ensures
