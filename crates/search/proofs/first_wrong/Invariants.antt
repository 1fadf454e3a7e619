-- The loops of `search::first_wrong`: the search from the dword reached on has the answer of the whole search, and the outer one is where a group starts.
use Rattle.std.proofs.Common.{◌-◌, ◌≡◌, ◌≤◌, ◌+◌, ◌%◌}
use Rattle.search.specs.Search.{wrong}
use Rattle.search.proofs.SearchLaws.{Left}
use Rattle.search.proofs.first_wrong.Given as goal

abbrev pub invariant-loop-j : goal.invariant-loop-j
invariant-loop-j l = (l.first + l.j ≤ l.len) × Left (wrong l.what l.w l.row l.command) l.len (l.first + l.j)

abbrev pub invariant-groups : goal.invariant-groups
invariant-groups l =
    (1 ≤ l.first) × (l.first ≤ l.len) × ((l.first - 1) % l.size ≡ 0) × Left (wrong l.what l.w l.row l.command) l.len l.first

abbrev pub decreases-groups : goal.decreases-groups
decreases-groups l = l.len - l.first
