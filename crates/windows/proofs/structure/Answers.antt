-- What is found lies within the window where it is found.
-- Assumes nothing.
use Rattle.windows.proofs.Holding.{within_its_window}
use Rattle.windows.proofs.structure.Goals as goal

pub part_of-requires : goal.part_of-requires
part_of-requires c = within_its_window _ _ _ _ _ _ _ c.held_in-held.ensures
