-- A law of the uses of addresses.
-- Assumes nothing.
use Prim.Native.Nat.{ℕ, ◌≤◌}
use mathlib.Core.Path.{◌≡◌}
use mathlib.Core.List.{List}
use lib.ListN.{get_or-eq_default}
use Rattle.rules.specs.declared.Access.TheVariants.{Unused}
use Rattle.rules.specs.Commands.{row_count}
use Rattle.rules.specs.Uses.{Uses, no_use, uses_by_row, access_of}

-- past the table's end there is no use
pub no_access : (r : ℕ) (d : List ℕ) (k j w : ℕ) → row_count ≤ r → Unused ≡ access_of r d k j w
unfolding access_of uses_by_row
no_access r d k j w h = rw (get_or-eq_default {A = Uses} uses_by_row no_use h)
