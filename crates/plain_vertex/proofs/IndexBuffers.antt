-- Row 12: what the table says of it, and its tests as the code asks them.
-- Assumes nothing.
use Prim.Native.Nat.{ℕ, ◌/◌, ◌%◌, ◌^◌, ◌<◌}
use mathlib.Core.Path.{◌≡◌, refl, sym, ◌∙◌}
use mathlib.Core.Bool.{Bool, true, false, cond, not, ◌&&◌, ◌||◌, or-false, not-not}
use mathlib.Core.List.{List, [], ◌∷◌}
use lib.ListN.{get_or}
use lib.Dec.{eqb, lit≤}
use Rattle.rules.specs.declared.Windows.{Windows}
use Rattle.rules.specs.declared.Within.TheVariants.{AnyWindow}
use Rattle.rules.specs.declared.Access.TheVariants.{Unused, Reaches}
use Rattle.rules.specs.declared.Level.TheVariants.{First}
use Rattle.rules.specs.Words.{allowed, in_group}
use Rattle.rules.specs.Commands.{index_buffer_row, rows, the_row, group_size}
use Rattle.rules.specs.Uses.{sized, uses_by_row, access_of, access_at, pair_address, address_at, canonical, is_used, used_high_of}
use Rattle.rules.specs.Masks.{masks_of, allowed_of, allowed_at, bit_wrong}
use Rattle.rules.specs.Values.{value_rules, rule_of, high_wrong, value_wrong_of, value_wrong}
use Rattle.rules.specs.Addresses.{access_wrong, range_wrong}
use Rattle.plain_shared.specs.Plain.{wrong_of, whole_header}
use Rattle.rules.proofs.Used.{any_dword_lem, used_or_kept}
use Rattle.plain_shared.proofs.Tests.{Test, answered, tested, content}
use Rattle.plain_shared.proofs.Whole.{WholeRow, head_is, whole_decides}

pub index_buffer_row_lem : WholeRow index_buffer_row 0x780A0003
unfolding rows the_row
index_buffer_row_lem = record { known = lit≤ tt; total = refl; key = refl; free = refl }

-- 10, 12 and 13 of its dwords
abbrev pub index_buffer_tests : Windows → List ℕ → List Test
index_buffer_tests w d =
    (not (allowed (get_or d 1 0) 0x0000037F), 2561)
    ∷ (not (not (eqb (get_or d 4 0) 0) || allowed (get_or d 3 0) 0x0000FFFF), 2563)
    ∷ (eqb (get_or d 1 0 / 0x100 % 4) 3, 3073)
    ∷ (not (not (not (eqb (get_or d 4 0) 0) && not (canonical (get_or d 3 0)))), 3075)
    ∷ (not (not (access_wrong w (pair_address (get_or d 2 0) (get_or d 3 0)) (sized (get_or d 4 0)))), 3330)
    ∷ []

-- its header keeps its mask
index_header_kept : allowed 0x780A0003 0x780A00FF ≡ true
unfolding allowed
index_header_kept = refl

-- a range of so many bytes is used where there are any
pub sized_used : (size : ℕ) → is_used (sized size) ≡ not (eqb size 0)
sized_used size = by (eqb size 0)
  where
    by : (none : Bool) → is_used (cond none Unused (Reaches size AnyWindow)) ≡ not none
    by true = refl
    by false = refl

module _ (w : Windows) (rest : List ℕ) where
  pub index_buffer_tested : {x : ℕ} → x ≡ whole_header rest 0x780A0003 → x ≡ 0 → get_or rest 2 0 < 2 ^ 32 → get_or rest 3 0 < 2 ^ 32 → get_or rest 4 0 < 2 ^ 32
      → answered (index_buffer_tests w rest) 0 ≡ wrong_of w index_buffer_row rest First
  unfolding content tested bit_wrong allowed_at allowed_of masks_of rows the_row group_size in_group
      value_rules rule_of high_wrong value_wrong_of value_wrong uses_by_row access_of access_at used_high_of range_wrong address_at
  index_buffer_tested e z second third fourth =
      let used = not (eqb (get_or rest 4 0) 0) in
      rw (not-not (used && not (canonical (get_or rest 3 0))), not-not)
      (sym
      (whole_decides index_buffer_row_lem w rest First e z
      ∙ rw (
        head_is rest _ e z,
        index_header_kept,
        any_dword_lem _ second,
        any_dword_lem _ fourth,
        sized_used (get_or rest 4 0),
        used_or_kept used (get_or rest 3 0) 0xFFFF third,
        or-false (used && not (canonical (get_or rest 3 0))),
      )))
