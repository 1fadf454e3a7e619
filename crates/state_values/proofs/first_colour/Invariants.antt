use Prim.Native.Nat.{◌-◌, ◌≤◌}
use mathlib.Core.Path.{◌≡◌}
use Rattle.rules.specs.Words.{first_from, first_of}
use Rattle.rules.specs.Structures.{colour_wrong}
use Rattle.state_values.proofs.first_colour.Given as goal

-- what is left of the search has the answer of the whole
abbrev pub invariant-loop-k : goal.invariant-loop-k
invariant-loop-k l = (2 ≤ l.k) × (l.k ≤ 6) × (first_of (colour_wrong l.d) 6 ≡ first_from (colour_wrong l.d) l.k (6 - l.k))
