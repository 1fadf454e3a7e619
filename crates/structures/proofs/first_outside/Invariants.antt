use Prim.Native.Nat.{◌-◌, ◌≤◌}
use mathlib.Core.Path.{◌≡◌}
use Rattle.rules.specs.Words.{first_from, first_of}
use Rattle.structures.specs.Table.{outside}
use Rattle.structures.proofs.first_outside.Given as goal

-- what is left of the search has the answer of the whole
abbrev pub invariant-loop-k : goal.invariant-loop-k
invariant-loop-k l = (l.k ≤ l.n) × (first_of (outside l.masks l.size l.d) l.n ≡ first_from (outside l.masks l.size l.d) l.k (l.n - l.k))
