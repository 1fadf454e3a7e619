-- The promise that is handed on is that of `plain::check_from` with no base.
use Rattle.api.proofs.lungevati_check_no_base.Goals as goal

pub returns : goal.returns
returns c = c.check_from.ensures
