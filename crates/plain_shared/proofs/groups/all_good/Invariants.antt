use Rattle.std.proofs.Common.{length, ◌-◌}
use Rattle.plain_shared.specs.Plain.{free_from, faulty}
use Rattle.plain_shared.proofs.Grouping.{AtGroup}
use Rattle.plain_shared.proofs.groups.all_good.Given as goal

abbrev pub invariant-loop-k : goal.invariant-loop-k
invariant-loop-k g l = AtGroup (free_from (faulty (g.G.Group.windows l.group) g.G.Group.of_row l.d)) g.G.Group.SIZE (length l.d) l.k

abbrev pub decreases-loop-k : goal.decreases-loop-k
decreases-loop-k g l = length l.d - l.k
