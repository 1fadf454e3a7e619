-- `walk::check` meets its promise: that of `check_from` from the state window.
use Rattle.walk.proofs.check.Goals as goal

pub returns : goal.returns
returns c = c.check_from.ensures
