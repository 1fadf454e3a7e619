-- 10 of row 9, four dwords at a time: the masks that the code lists are the table's, the high dwords' by whether their base is used.
-- Assumes nothing.
use Prim.Native.Nat.{ℕ}
use mathlib.Core.Path.{◌≡◌}
use mathlib.Core.Bool.{cond}
use mathlib.Core.List.{List, [], ◌∷◌}
use lib.ListN.{get_or}
use Rattle.rules.specs.declared.Reason.TheVariants.{BitNotAllowed}
use Rattle.rules.specs.Words.{bit, some, allowed, in_group, first_from}
use Rattle.rules.specs.Refusals.{batch_window, refuse_found}
use Rattle.rules.specs.Commands.{any_dword, base_row, rows, the_row, group_size}
use Rattle.rules.specs.Uses.{uses_by_row, access_of, used_high_of}
use Rattle.rules.specs.Masks.{masks_of, allowed_of, allowed_at, bit_wrong}
use Rattle.plain_shared.specs.Plain.{coded, first_coded}
use Rattle.plain_shared.proofs.Grouping.{InOrder, first_in_order}
use Rattle.plain_3d.specs.Stray.{stray_from}
use Rattle.plain_3d.proofs.Bases.{used_if}

-- 10 of the dwords from k on
abbrev pub bits : List ℕ → ℕ → ℕ → ℕ
bits d = first_coded BitNotAllowed (bit_wrong base_row d)

pub bits_in_order : (d : List ℕ) → InOrder 0 (bits d)
bits_in_order d = first_in_order BitNotAllowed (bit_wrong base_row d)

-- the same against these masks
abbrev listed_bits : List ℕ → ℕ → List ℕ → ℕ
listed_bits d k masks = coded (refuse_found BitNotAllowed batch_window 0 (stray_from d k masks))

abbrev high_mask : List ℕ → ℕ → ℕ
high_mask d k = cond (bit (get_or d k 0) 0) any_dword 0x0000FFFF

module _ (d : List ℕ) where
  pub first_four : get_or d 0 0 ≡ 0x6101000E → {a x : ℕ} → a ≡ high_mask d 1 → x ≡ listed_bits d 0 (0x6101000E ∷ 0xFFFFF7F1 ∷ a ∷ 0x007F0000 ∷ []) → x ≡ bits d 0 4
  unfolding stray_from first_from bit_wrong allowed_at allowed_of masks_of in_group rows the_row group_size allowed uses_by_row access_of used_high_of some
  first_four head h f = rw (head, used_if (bit (get_or d 1 0) 0)) (rw (head, h) at f)

  pub second_four : {a b x : ℕ} → a ≡ high_mask d 4 → b ≡ high_mask d 6 → x ≡ listed_bits d 4 (0xFFFFF7F1 ∷ a ∷ 0xFFFFF7F1 ∷ b ∷ []) → x ≡ bits d 4 4
  unfolding stray_from first_from bit_wrong allowed_at allowed_of masks_of in_group rows the_row group_size uses_by_row access_of used_high_of some
  second_four h i f = rw (used_if (bit (get_or d 4 0) 0), used_if (bit (get_or d 6 0) 0)) (rw (h, i) at f)

  pub third_four : {a b x : ℕ} → a ≡ high_mask d 8 → b ≡ high_mask d 10 → x ≡ listed_bits d 8 (0xFFFFF7F1 ∷ a ∷ 0xFFFFF7F1 ∷ b ∷ []) → x ≡ bits d 8 4
  unfolding stray_from first_from bit_wrong allowed_at allowed_of masks_of in_group rows the_row group_size uses_by_row access_of used_high_of some
  third_four h i f = rw (used_if (bit (get_or d 8 0) 0), used_if (bit (get_or d 10 0) 0)) (rw (h, i) at f)

  pub last_four : {x : ℕ} → x ≡ listed_bits d 12 (0xFFFFF001 ∷ 0xFFFFF001 ∷ 0xFFFFF001 ∷ 0xFFFFF001 ∷ []) → x ≡ bits d 12 4
  unfolding stray_from first_from bit_wrong allowed_at allowed_of masks_of in_group rows the_row group_size uses_by_row access_of used_high_of some
  last_four f = f
