-- `plain_mi::type_0::set_registers`: its header, and its pairs.
use Rattle.std.proofs.Common.{arith, refl, ◌∙◌}
use Rattle.rules.specs.declared.Level.TheVariants.{First}
use Rattle.rules.specs.Words.{in_group}
use Rattle.rules.specs.Commands.{set_registers_row, rows, the_row, group_size}
use Rattle.rules.specs.Uses.{uses_by_row, access_of, access_at, used_high_of}
use Rattle.rules.specs.Values.{value_rules, rule_of, high_wrong, value_wrong_of, value_wrong}
use Rattle.rules.specs.Addresses.{range_wrong}
use Rattle.plain_shared.specs.Plain.{no_windows}
use Rattle.plain_shared.proofs.Answering.{handed_on, is_refusal}
use Rattle.plain_shared.proofs.OfGroups.{GroupRow, groups_refuse, own_groups}
use Rattle.plain_mi.proofs.type_0.set_registers.Goals as goal

of_pairs : GroupRow set_registers_row 2 64 0x110000
unfolding rows the_row group_size
of_pairs = record { total = refl; of_size = refl; key = refl; mask = refl; known = omega arith }

pub returns-in_err-groups_header : goal.returns-in_err-groups_header
returns-in_err-groups_header c =
    handed_on _ _ c.from_residual.ensures.1
    ∙ groups_refuse of_pairs no_windows _ First c.in_err-groups_header.ensures c.requires.1 (is_refusal c.in_err-groups_header.field-0.0)

pub slice_bounds-groups_checked-end : goal.slice_bounds-groups_checked-end
slice_bounds-groups_checked-end c = (own_groups of_pairs no_windows _ First c.in_ok-groups_header.ensures refl c.length_by_field-length.ensures).long

pub groups_checked-requires : goal.groups_checked-requires
unfolding in_group value_rules rule_of high_wrong value_wrong_of value_wrong uses_by_row access_of access_at used_high_of range_wrong
groups_checked-requires c =
    let right = (own_groups of_pairs no_windows _ First c.in_ok-groups_header.ensures refl c.length_by_field-length.ensures).right in
    (right.0, record { some = right.0.0; bits = right.1; value = refl; range = refl; quiet = refl })

pub returns : goal.returns
returns c =
    (own_groups of_pairs no_windows _ First c.in_ok-groups_header.ensures refl c.length_by_field-length.ensures).says c.groups_checked.ensures
