-- `plain_vertex::vertices::BufferGroup::wrong`: the check by its reason.
use Rattle.std.proofs.Common.{sym, ◌∙◌}
use Rattle.plain_shared.specs.Plain.{first_by}
use Rattle.plain_shared.proofs.Answering.{other_by}
use Rattle.plain_vertex.proofs.vertices.BufferGroup.wrong.Goals as goal

pub returns-in-BitNotAllowed : goal.returns-in-BitNotAllowed
unfolding first_by
returns-in-BitNotAllowed c = rw c.in-BitNotAllowed.is c.buffer_bit.ensures

pub returns-in-ValueBroken : goal.returns-in-ValueBroken
unfolding first_by
returns-in-ValueBroken c = rw c.in-ValueBroken.is c.buffer_value.ensures

pub returns-in_default : goal.returns-in_default
returns-in_default c = c.buffer_range.ensures ∙ sym (other_by _ _ _ _ _ 4 c.in_default.not-BitNotAllowed c.in_default.not-ValueBroken)
