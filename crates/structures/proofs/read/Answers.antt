-- The verdict on what the lookup finds.
-- Assumes nothing.
use mathlib.Core.Path.{sym, ◌∙◌}
use borrow.Author.Rules.{rules}
use Rattle.rules.proofs.Readings.{structure_read}
use Rattle.windows.proofs.Holding.{within_its_window}
use Rattle.structures.proofs.Judging.{values_well}
use Rattle.structures.proofs.Reading.{ends_below, reading_is}
use Rattle.structures.proofs.read.Goals as goal

pub part_of-d-requires : goal.part_of-d-requires
part_of-d-requires c = within_its_window _ _ _ _ _ _ _ c.held_in-held.ensures

pub judged-requires : goal.judged-requires
judged-requires c = ends_below _ _ _ _ _ _ _ c.dwords_of-n.ensures c.held_in-held.ensures (search rules) (search rules) (search rules)

pub values-requires : goal.values-requires
values-requires c = values_well _ (sym c.judged.ensures ∙ c.in-Ok.is)

pub returns-in-Ok : goal.returns-in-Ok
returns-in-Ok c =
    rw (c.values.ensures
    ∙ reading_is _ _ _ _ _ _ _ c.dwords_of-n.ensures c.held_in-held.ensures
    c.part_of-d.ensures (sym c.in-Ok.is ∙ c.judged.ensures))
    (structure_read _ _ _ _ _ _ _)

pub returns-in-Err : goal.returns-in-Err
returns-in-Err c =
    rw (reading_is _ _ _ _ _ _ _ c.dwords_of-n.ensures c.held_in-held.ensures
    c.part_of-d.ensures (sym c.in-Err.is ∙ c.judged.ensures))
    (structure_read _ _ _ _ _ _ _)
