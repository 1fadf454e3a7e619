-- `plain_mi::type_0::PairGroup::wrong`: the check by its reason.
use Rattle.std.proofs.Common.{refl}
use Rattle.rules.specs.Commands.{set_registers_row}
use Rattle.rules.specs.Uses.{uses_by_row, access_of}
use Rattle.plain_shared.specs.Plain.{first_by, no_windows}
use Rattle.plain_shared.proofs.Answering.{no_range_by}
use Rattle.plain_mi.proofs.type_0.PairGroup.wrong.Goals as goal

pub returns-in-BitNotAllowed : goal.returns-in-BitNotAllowed
unfolding first_by
returns-in-BitNotAllowed c = rw c.in-BitNotAllowed.is c.pair_bit.ensures

pub returns-in-ValueBroken : goal.returns-in-ValueBroken
unfolding first_by
returns-in-ValueBroken c = rw c.in-ValueBroken.is c.pair_value.ensures

pub returns-in_default : goal.returns-in_default
unfolding uses_by_row access_of
returns-in_default c = no_range_by no_windows set_registers_row _ refl _ 2 _ c.in_default.not-BitNotAllowed c.in_default.not-ValueBroken
