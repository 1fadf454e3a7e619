-- `walk::check_from` meets its promise: that of the call behind both engines.
use Rattle.walk.proofs.check_from.Goals as goal

pub returns : goal.returns
returns c = c.check_by.ensures
