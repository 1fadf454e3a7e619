-- Every shut definition that the walk is made of, under one name: whoever says `unfolding book` can compute a walk.
use Rattle.std.specs.Prelude.{ℕ}
use Rattle.std.specs.Float.Ieee.{of_bits, nan_bits, le}
use Rattle.rules.specs.Words.{allowed, some, some_two, first_from, in_group}
use Rattle.rules.specs.Refusals.{number_of, tried, answer_with, told}
use Rattle.rules.specs.Windows.{windows_of, counts_wrong, window_checks, window_fault, holds, windows_within, fits, holds_dwords, held_at, part_of}
use Rattle.rules.specs.Commands.{rows, the_row, key_of, row_from, row_of, length_of, group_size, length_right}
use Rattle.rules.specs.Uses.{uses_by_row, access_of, access_at, address_at, canonical, used_high_of}
use Rattle.rules.specs.Masks.{masks_of, allowed_of, allowed_at, bit_wrong}
use Rattle.rules.specs.Formats.{surface_formats, format_bits, known_topology, known_register, blend_factors, blend_functions, named_factor, named_function}
use Rattle.rules.specs.Values.{components_wrong, value_rules, rule_of, high_wrong, value_wrong_of, value_wrong}
use Rattle.rules.specs.Addresses.{range_wrong}
use Rattle.rules.specs.Structures.{layout_of, structure_mask, structure_bit_wrong, depth_wrong, colour_wrong, structure_value_wrong}
use Rattle.rules.specs.Structures.{entry_wrong, blend_wrong, structure_nowhere, structure_bit, structure_value, structure_checks, read_at, verdict_of}
use Rattle.rules.specs.Step.{dwords_at, pointer_of, budget_spent, ran_off, unknown_header, wrong_length, past_the_window, bit_not_allowed, nested_start, value_broken}
use Rattle.rules.specs.Step.{range_outside, base_never_set, records_full, step_checks, checks, after_end, base_after, move_of, command_at, step_of}
use Rattle.rules.specs.Walk.{trace, cut, walk, commands_of, end_of, answer_of}
use Rattle.rules.specs.Records.{first_word, second_word, command_of, words_of, commands_in, words_for, room_of, written_of}

-- no sentences of their own: the pages of document 01 up to "Capture file and printout", for whoever computes
unfoldable pub windows_page : ℕ
unfolding allowed some some_two first_from in_group number_of tried answer_with told windows_of counts_wrong window_checks window_fault holds windows_within fits
windows_page = 0

unfoldable pub commands_page : ℕ
unfolding rows the_row key_of row_from row_of length_of group_size length_right address_at canonical uses_by_row access_of access_at used_high_of masks_of allowed_of allowed_at bit_wrong
commands_page = 0

unfoldable pub values_page : ℕ
unfolding surface_formats format_bits known_topology known_register blend_factors blend_functions named_factor named_function components_wrong value_rules rule_of high_wrong value_wrong_of value_wrong range_wrong
values_page = 0

unfoldable pub structures_page : ℕ
unfolding of_bits nan_bits le holds_dwords held_at part_of layout_of structure_mask structure_bit_wrong depth_wrong colour_wrong entry_wrong blend_wrong structure_value_wrong
structures_page = 0

unfoldable pub reading_page : ℕ
unfolding structure_nowhere structure_bit structure_value structure_checks read_at verdict_of dwords_at pointer_of
reading_page = 0

unfoldable pub checks_page : ℕ
unfolding budget_spent ran_off unknown_header wrong_length past_the_window bit_not_allowed nested_start value_broken range_outside base_never_set records_full
checks_page = 0

unfoldable pub walk_page : ℕ
unfolding step_checks checks after_end base_after move_of command_at step_of trace cut walk commands_of end_of answer_of
walk_page = 0

unfoldable pub records_page : ℕ
unfolding first_word second_word command_of words_of commands_in words_for room_of written_of
records_page = 0

-- all of them
unfoldable pub book : ℕ
unfolding windows_page commands_page values_page structures_page reading_page checks_page walk_page records_page
book = 0
