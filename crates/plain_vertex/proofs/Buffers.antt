-- The dwords of a vertex buffer: what 10 and 12 ask of each, and when nothing is wrong with any of the four.
-- Assumes nothing.
use Prim.Native.Nat.{ℕ, ◌+◌, ◌%◌, ◌^◌, ◌<◌}
use native.Mathlib.Omega.{arith}
use mathlib.Core.Path.{◌≡◌, refl, sym, ◌∙◌}
use mathlib.Core.Bool.{Bool, true, false, cond, not, ◌&&◌, ◌||◌}
use mathlib.Core.List.{List, [], ◌∷◌}
use lib.Dec.{ltb}
use lib.ListN.{get_or}
use Rattle.rules.specs.declared.Reason.TheVariants.{BitNotAllowed, ValueBroken}
use Rattle.rules.specs.declared.Windows.{Windows}
use Rattle.rules.specs.Words.{allowed, field}
use Rattle.rules.specs.Refusals.{number_of}
use Rattle.rules.specs.Commands.{vertex_buffers_row, rows, the_row, group_size}
use Rattle.rules.specs.Uses.{uses_by_row, access_of, canonical, used_high_of}
use Rattle.rules.specs.Masks.{masks_of, bit_wrong}
use Rattle.rules.specs.Values.{value_rules, rule_of, value_wrong}
use Rattle.rules.specs.Addresses.{range_wrong}
use Rattle.plain_shared.specs.Plain.{first_coded, free_from, clean_from, GroupAt}
use Rattle.plain_shared.proofs.Tests.{Test, answered, one_by_one, in_four}
use Rattle.plain_shared.proofs.Dwords.{bit_in, free_in, high_bit_in, value_in, high_value_in}
use Rattle.plain_shared.proofs.Cleanness.{all_three_lem}
use Rattle.plain_vertex.proofs.BufferRanges.{range_decides, unused_fits}

-- what is asked of its dwords
abbrev pub flags_kept : List ℕ → ℕ → Bool
flags_kept d k = allowed (get_or d k 0) 0xFC7F6FFF

abbrev pub index_high : List ℕ → ℕ → Bool
index_high d k = ltb 32 (field (get_or d k 0) 31 26)

abbrev pub pitch_high : List ℕ → ℕ → Bool
pitch_high d k = ltb 2048 (get_or d k 0 % 0x1000)

abbrev pub address_used : List ℕ → ℕ → Bool
address_used d k = used_high_of vertex_buffers_row d (k + 2) 3

abbrev pub high_kept : List ℕ → ℕ → Bool
high_kept d k = allowed (get_or d (k + 2) 0) 0x0000FFFF

abbrev pub high_right : List ℕ → ℕ → Bool
high_right d k = canonical (get_or d (k + 2) 0)

abbrev pub bit_tests : List ℕ → ℕ → List Test
bit_tests d k = (not (flags_kept d k), 2560 + k) ∷ (not (address_used d k || high_kept d k), 2560 + (k + 2)) ∷ []

abbrev pub value_tests : List ℕ → ℕ → List Test
value_tests d k =
    (index_high d k, 3072 + k) ∷ (pitch_high d k, 3072 + k) ∷ (address_used d k && not (high_right d k), 3072 + (k + 2)) ∷ []

pitch_is : (x : ℕ) → field x 11 0 ≡ x % 0x1000
pitch_is x = omega arith

-- four tests as one
free_of_four : (bad : ℕ → Bool) (k : ℕ) {a b e f : Bool} → bad k ≡ a → bad (k + 1) ≡ b → bad (k + 2) ≡ e → bad (k + 3) ≡ f
    → free_from bad k 4 ≡ (not a && (not b && (not e && (not f && true))))
unfolding free_from
free_of_four bad k first second third fourth =
    let p : k + 1 + 1 ≡ k + 2 = omega arith in
    let q : k + 2 + 1 ≡ k + 3 = omega arith in
    rw (first, second, p, third, q, fourth)

-- 10, 12 and 13 together: the flags, and then by whether the address is used
by_use : (kept index pitch used low right outside : Bool) → (used ≡ false → outside ≡ false)
    → ((not (not kept) && (not false && (not (not (used || low)) && (not false && true))))
    && ((not (index || pitch) && (not false && (not (used && not right) && (not false && true)))) && not outside))
    ≡ (kept && (not index && (not pitch && cond used (right && not outside) low)))
by_use false index pitch used low right outside u = refl
by_use true true pitch true low right outside u = refl
by_use true false true true low right outside u = refl
by_use true false false true low true outside u = refl
by_use true false false true low false outside u = refl
by_use true true pitch false true right outside u = refl
by_use true false true false true right outside u = refl
by_use true false false false true right outside u = rw (u refl)
by_use true true pitch false false right outside u = refl
by_use true false true false false right outside u = refl
by_use true false false false false right outside u = refl

module _ (d : List ℕ) (k : ℕ) (g : GroupAt 4 d k) where
  module _ (small : (i : ℕ) → get_or d i 0 < 2 ^ 32) where
    first_bit : bit_wrong vertex_buffers_row d k ≡ not (flags_kept d k)
    unfolding rows the_row group_size uses_by_row access_of used_high_of masks_of
    first_bit = bit_in vertex_buffers_row refl _ _ g 0 (omega arith) (omega arith) refl refl

    second_bit : bit_wrong vertex_buffers_row d (k + 1) ≡ false
    unfolding rows the_row group_size uses_by_row access_of used_high_of masks_of
    second_bit = free_in vertex_buffers_row refl _ _ g 1 (omega arith) refl refl refl (small (k + 1))

    third_bit : bit_wrong vertex_buffers_row d (k + 2) ≡ not (address_used d k || high_kept d k)
    unfolding rows the_row group_size masks_of
    third_bit = high_bit_in vertex_buffers_row refl _ _ g 2 (omega arith) refl refl (small (k + 2))

    fourth_bit : bit_wrong vertex_buffers_row d (k + 3) ≡ false
    unfolding rows the_row group_size uses_by_row access_of used_high_of masks_of
    fourth_bit = free_in vertex_buffers_row refl _ _ g 3 (omega arith) refl refl refl (small (k + 3))

    pub bits_tested : answered (bit_tests d k) 0 ≡ first_coded BitNotAllowed (bit_wrong vertex_buffers_row d) k 4
    unfolding number_of
    bits_tested = in_four _ _ k first_bit second_bit third_bit fourth_bit

  first_value_lem : value_wrong vertex_buffers_row d k ≡ (index_high d k || pitch_high d k)
  unfolding rows the_row group_size uses_by_row access_of used_high_of value_rules rule_of
  first_value_lem =
      rw (← pitch_is (get_or d k 0)) (value_in vertex_buffers_row refl _ _ g 0 (omega arith) (omega arith) refl)

  second_value : value_wrong vertex_buffers_row d (k + 1) ≡ false
  unfolding rows the_row group_size uses_by_row access_of used_high_of value_rules rule_of
  second_value = value_in vertex_buffers_row refl _ _ g 1 (omega arith) refl refl

  third_value : value_wrong vertex_buffers_row d (k + 2) ≡ (address_used d k && not (high_right d k))
  unfolding rows the_row group_size value_rules rule_of
  third_value = high_value_in vertex_buffers_row refl _ _ g 2 (omega arith) refl refl

  fourth_value : value_wrong vertex_buffers_row d (k + 3) ≡ false
  unfolding rows the_row group_size uses_by_row access_of used_high_of value_rules rule_of
  fourth_value = value_in vertex_buffers_row refl _ _ g 3 (omega arith) refl refl

  pub values_tested : answered (value_tests d k) 0 ≡ first_coded ValueBroken (value_wrong vertex_buffers_row d) k 4
  unfolding number_of
  values_tested =
      one_by_one (index_high d k) (pitch_high d k) (3072 + k) _ ∙ in_four _ _ k first_value_lem second_value third_value fourth_value

  pub clean_by_use : (w : Windows) → ((i : ℕ) → get_or d i 0 < 2 ^ 32)
      → clean_from w vertex_buffers_row d k 4
      ≡ (flags_kept d k && (not (index_high d k) && (not (pitch_high d k)
      && cond (address_used d k) (high_right d k && not (range_wrong w vertex_buffers_row d (k + 1))) (high_kept d k))))
  clean_by_use w small =
      sym (all_three_lem w vertex_buffers_row d k 4)
      ∙ rw (
        free_of_four _ k (first_bit small) (second_bit small) (third_bit small) (fourth_bit small),
        free_of_four _ k first_value_lem second_value third_value fourth_value,
        range_decides w d k g,
      )
      (by_use (flags_kept d k) (index_high d k) (pitch_high d k) (address_used d k) (high_kept d k) (high_right d k) _ (unused_fits w d k g))
