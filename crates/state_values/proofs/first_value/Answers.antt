-- A viewport's search, by its two depths.
-- Assumes nothing.
use mathlib.Core.Path.{◌∙◌}
use Rattle.rules.specs.Structures.{layout_of}
use Rattle.state_values.proofs.ValueRules.{two_depths}
use Rattle.state_values.proofs.first_value.Goals as goal

pub returns-in-Viewport : goal.returns-in-Viewport
unfolding layout_of
returns-in-Viewport c = rw c.in-Viewport.is (c.first_depth.ensures ∙ two_depths _ c.dword.ensures c.dword-in-Viewport.ensures)
