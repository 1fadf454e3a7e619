-- `structures::judged` meets its contract: each way out has its law.
use Rattle.std.proofs.Common.{rules}
use mathlib.Core.Path.{refl, sym, ◌∙◌}
use Rattle.structures.proofs.Judging.{not_held, bit_wrong_lem, value_wrong_lem, all_well, found_below}
use Rattle.structures.proofs.judged.Goals as goal

pub returns-in_default : goal.returns-in_default
returns-in_default c = rw c.in_batch.ensures (not_held _ (search rules))

pub fault_at-requires : goal.fault_at-requires
fault_at-requires c = found_below _ _ (sym c.first_bit.ensures ∙ c.in-Some-first_bit.is) _ _ (search rules)

pub returns-in-Some-first_bit : goal.returns-in-Some-first_bit
returns-in-Some-first_bit c =
    rw (c.fault_at.ensures, c.in-Some.is) (bit_wrong_lem _ refl (sym c.first_bit.ensures ∙ c.in-Some-first_bit.is))

pub fault_at-requires-in-Some-first_value : goal.fault_at-requires-in-Some-first_value
fault_at-requires-in-Some-first_value c = found_below _ _ (sym c.first_value.ensures ∙ c.in-Some-first_value.is) _ _ (search rules)

pub returns-in-Some-first_value : goal.returns-in-Some-first_value
returns-in-Some-first_value c =
    rw (c.fault_at-in-Some-first_value.ensures, c.in-Some.is)
    (value_wrong_lem _ refl (sym c.first_bit.ensures ∙ c.in_default-first_bit.is) (sym c.first_value.ensures ∙ c.in-Some-first_value.is))

pub returns : goal.returns
returns c =
    rw c.in-Some.is (all_well _ refl (sym c.first_bit.ensures ∙ c.in_default-first_bit.is) (sym c.first_value.ensures ∙ c.in_default-first_value.is))
