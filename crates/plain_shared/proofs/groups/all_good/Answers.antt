-- `plain_shared::groups::all_good`: nothing is wrong with the groups that are left.
use Rattle.std.proofs.Common.{refl}
use Rattle.rules.proofs.Searching.{never_both}
use Rattle.plain_shared.proofs.Grouping.{free_in_order, turn_at, goes_on, stops, all_passed}
use Rattle.plain_shared.proofs.groups.all_good.Goals as goal

pub returns-then-not-good : goal.returns-then-not-good
returns-then-not-good g c =
    stops (free_in_order _) (turn_at c.loop-k.invariant c.requires.1 c.loop-k-test.true) c.if-not-good.ensures (λ z. never_both z refl)

pub loop-k-preserved : goal.loop-k-preserved
loop-k-preserved g c =
    rw c.SIZE-k.ensures (goes_on (free_in_order _) (turn_at c.loop-k.invariant c.requires.1 c.loop-k-test.true) c.if-not-good.ensures refl)

pub returns : goal.returns
returns g c = all_passed (free_in_order _) c.loop-k.invariant c.loop-k-test.false
