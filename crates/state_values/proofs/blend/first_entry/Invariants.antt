use Prim.Native.Nat.{◌-◌, ◌%◌, ◌≤◌}
use mathlib.Core.Path.{◌≡◌}
use Rattle.rules.specs.Words.{first_from, first_of}
use Rattle.rules.specs.Structures.{blend_wrong}
use Rattle.state_values.proofs.blend.first_entry.Given as goal

-- what is left of the search has the answer of the whole, and each turn passes one entry
abbrev pub invariant-loop-k : goal.invariant-loop-k
invariant-loop-k l = (l.k % 2 ≡ 1) × (l.k ≤ 17) × (first_of (blend_wrong l.d) 17 ≡ first_from (blend_wrong l.d) l.k (17 - l.k))
