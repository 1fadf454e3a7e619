-- `plain_vertex::vertices::ElementGroup::good`: a bit is wrong, or else the values decide.
use Rattle.std.proofs.Common.{refl, sym, ◌∙◌}
use Rattle.rules.specs.Commands.{vertex_elements_row}
use Rattle.rules.specs.Uses.{uses_by_row, access_of}
use Rattle.plain_shared.specs.Plain.{no_windows}
use Rattle.plain_shared.proofs.Answering.{is_right, bits_say, values_say}
use Rattle.plain_vertex.proofs.Elements.{second_kept}
use Rattle.plain_vertex.proofs.vertices.ElementGroup.good.Goals as goal

pub element_value-requires : goal.element_value-requires
element_value-requires c =
    (c.requires, second_kept _ _ c.requires (sym c.element_bit.ensures ∙ is_right _ (sym c.is_ok.ensures.value ∙ c.if-is_ok.true)))

pub returns-then-is_ok : goal.returns-then-is_ok
unfolding uses_by_row access_of
returns-then-is_ok c =
    c.is_ok-then-is_ok.ensures.value
    ∙ values_say no_windows vertex_elements_row _ refl _ 2 _ _ c.element_bit.ensures c.element_value.ensures
    (sym c.is_ok.ensures.value ∙ c.if-is_ok.true)

pub returns-else-is_ok : goal.returns-else-is_ok
unfolding uses_by_row access_of
returns-else-is_ok c =
    c.is_ok.ensures.value
    ∙ bits_say no_windows vertex_elements_row _ refl _ 2 _ c.element_bit.ensures (sym c.is_ok.ensures.value ∙ c.if-is_ok.false)
