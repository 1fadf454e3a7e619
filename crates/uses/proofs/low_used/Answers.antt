-- Whether a start's use is one, where the row is the start's.
-- Assumes nothing.
use mathlib.Core.Path.{ap, ◌∙◌}
use Rattle.rules.specs.Uses.{uses_by_row, access_of, is_used}
use Rattle.uses.proofs.low_used.Goals as goal

pub returns-in-2 : goal.returns-in-2
unfolding uses_by_row access_of
returns-in-2 c = rw c.in-2.is (c.is_used.ensures ∙ ap is_used c.start_use.ensures)
