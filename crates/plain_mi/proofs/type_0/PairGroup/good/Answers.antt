-- `plain_mi::type_0::PairGroup::good`: a bit is wrong, or else the value decides.
use Rattle.std.proofs.Common.{refl, sym, ◌∙◌}
use Rattle.rules.specs.Commands.{set_registers_row}
use Rattle.rules.specs.Uses.{uses_by_row, access_of}
use Rattle.plain_shared.specs.Plain.{no_windows}
use Rattle.plain_shared.proofs.Answering.{bits_say, values_say}
use Rattle.plain_mi.proofs.type_0.PairGroup.good.Goals as goal

pub returns-then-is_ok : goal.returns-then-is_ok
unfolding uses_by_row access_of
returns-then-is_ok c =
    c.is_ok-then-is_ok.ensures.value
    ∙ values_say no_windows set_registers_row _ refl _ 2 _ _ c.pair_bit.ensures c.pair_value.ensures (sym c.is_ok.ensures.value ∙ c.if-is_ok.true)

pub returns-else-is_ok : goal.returns-else-is_ok
unfolding uses_by_row access_of
returns-else-is_ok c =
    c.is_ok.ensures.value
    ∙ bits_say no_windows set_registers_row _ refl _ 2 _ c.pair_bit.ensures (sym c.is_ok.ensures.value ∙ c.if-is_ok.false)
