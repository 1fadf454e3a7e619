-- `plain_shared::groups::groups_checked`: nothing is wrong with any group, or the first 10 says so, and else the first 12, and else the first 13.
use Rattle.std.proofs.Common.{refl, sym, ◌∙◌}
use Rattle.plain_shared.specs.Plain.{first_by}
use Rattle.plain_shared.proofs.Answering.{handed_on, is_refusal}
use Rattle.plain_shared.proofs.Content.{all_clean, bit_first, value_first, range_last}
use Rattle.plain_shared.proofs.groups.groups_checked.Goals as goal

pub returns-then-all_good : goal.returns-then-all_good
returns-then-all_good g c = all_clean c.requires.1 c.if-all_good.ensures refl

pub returns-in_err-first_of : goal.returns-in_err-first_of
returns-in_err-first_of g c = handed_on _ _ c.from_residual.ensures.1 ∙ bit_first c.requires.1 c.in_err-first_of.ensures (is_refusal c.in_err-first_of.field-0.0)

pub first_of-requires-2-clause-bits_pass : goal.first_of-requires-2-clause-bits_pass
unfolding first_by
first_of-requires-2-clause-bits_pass g c v = sym c.in_ok-first_of.ensures

pub returns-in_err-first_of-2 : goal.returns-in_err-first_of-2
returns-in_err-first_of-2 g c =
    handed_on _ _ c.from_residual-in_err-first_of-2.ensures.1
    ∙ value_first c.requires.1 c.in_ok-first_of.ensures refl c.in_err-first_of-2.ensures (is_refusal c.in_err-first_of-2.field-0.0)

pub returns : goal.returns
returns g c =
    range_last c.requires.1 c.in_ok-first_of.ensures refl c.in_ok-first_of-2.ensures refl c.first_of-3.ensures
