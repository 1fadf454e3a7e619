-- `put_name` meets its contract: a byte more is shown in each turn.
use Rattle.std.proofs.Common.{rules}
use Rattle.names.proofs.Showing.{show_goes_on, show_ends}
use Rattle.names.proofs.put_name.Goals as goal

pub loop-i-preserved : goal.loop-i-preserved
loop-i-preserved c = show_goes_on c.loop-i.invariant (search rules) c.standing_on-stands.ensures c.put_shown.ensures (search rules)

pub returns : goal.returns
returns c = show_ends c.loop-i.invariant (search rules)
