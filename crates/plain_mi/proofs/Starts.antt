-- Row 2: the start, test by test, once its field is right and it does not go past the window.
-- Assumes nothing.
use Prim.Native.Nat.{ℕ, ◌%◌, ◌^◌, ◌≤◌, ◌<◌}
use mathlib.Core.Path.{◌≡◌, refl, sym, ◌∙◌}
use mathlib.Core.Bool.{not, or-false}
use mathlib.Core.List.{List, [], ◌∷◌}
use lib.ListN.{length, get_or}
use Rattle.rules.specs.declared.Windows.{Windows}
use Rattle.rules.specs.declared.Within.TheVariants.{BatchOnly}
use Rattle.rules.specs.declared.Level.{Level}
use Rattle.rules.specs.Words.{bit, allowed, in_group}
use Rattle.rules.specs.Windows.{fits}
use Rattle.rules.specs.Commands.{start_row, rows, the_row, group_size}
use Rattle.rules.specs.Uses.{uses_by_row, access_of, access_at, pair_address, address_at, canonical, used_high_of}
use Rattle.rules.specs.Masks.{masks_of, allowed_of, allowed_at, bit_wrong}
use Rattle.rules.specs.Values.{value_rules, rule_of, high_wrong, value_wrong_of, value_wrong}
use Rattle.rules.specs.Addresses.{range_wrong}
use Rattle.rules.specs.Step.{nested}
use Rattle.plain_shared.specs.Plain.{wrong_of}
use Rattle.plain_shared.proofs.Tests.{Test, answered, tested, content, whole}
use Rattle.rules.proofs.Used.{any_dword_lem}
use Rattle.plain_shared.proofs.Lengths.{exact_wrong, exact_right, exact_long, exact_past, length_says}

-- its tests
abbrev pub start_tests : Windows → List ℕ → Level → List Test
start_tests w d level =
    (not (allowed (get_or d 0 0) 0x18C001FF), 2560)
    ∷ (not (allowed (get_or d 1 0) 0xFFFFFFFC), 2561)
    ∷ (nested start_row level, 2816)
    ∷ (not (bit (get_or d 0 0) 8), 3072)
    ∷ (not (canonical (get_or d 2 0)), 3074)
    ∷ (not (fits w BatchOnly (pair_address (get_or d 1 0) (get_or d 2 0)) 4), 3329)
    ∷ []

module _ (w : Windows) (rest : List ℕ) (level : Level) where
  pub start_field : (get_or rest 0 0 % 256 ≡ 1 → ⊥) → 2048 ≡ wrong_of w start_row rest level
  unfolding rows the_row
  start_field n = length_says w start_row rest level (exact_wrong start_row 1 refl _ n)

  module _ (e : get_or rest 0 0 % 256 ≡ 1) where
    pub start_past : length rest < 3 → 2304 ≡ wrong_of w start_row rest level
    unfolding rows the_row
    start_past h = exact_past start_row 1 refl w rest level e h

    pub start_tested : 3 ≤ length rest → get_or rest 2 0 < 2 ^ 32 → answered (start_tests w rest level) 0 ≡ wrong_of w start_row rest level
    unfolding rows the_row group_size in_group content tested bit_wrong allowed_at allowed_of masks_of
        value_rules rule_of high_wrong value_wrong_of value_wrong uses_by_row access_of access_at used_high_of range_wrong address_at
    start_tested h second =
        sym
        (whole w start_row rest level (exact_right start_row 1 refl _ e) 3 (exact_long start_row 1 refl _ e) h
        ∙ rw (any_dword_lem (get_or rest 2 0) second, or-false (not (canonical (get_or rest 2 0)))))
