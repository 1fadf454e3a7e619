-- Row 9: a base is used where its modify bit is set, and no range is asked of it; 10 decides, and behind it 12.
-- Assumes nothing.
use Prim.Native.Nat.{ℕ, zero, suc, ◌+◌, ◌≤◌, ◌<◌}
use native.Mathlib.Omega.{arith}
use mathlib.Core.Path.{◌≡◌, refl, sym, ap, ◌∙◌}
use mathlib.Core.Bool.{Bool, true, false, cond, not, ◌&&◌, or-false, not-not}
use mathlib.Core.List.{List, [], ◌∷◌}
use lib.ListN.{length, get_or}
use lib.Dec.{eqb, lit≤, lit<}
use Rattle.rules.specs.declared.Access.TheVariants.{Unused, NoRange}
use Rattle.rules.specs.declared.Level.TheVariants.{First}
use Rattle.rules.specs.declared.Reason.TheVariants.{BitNotAllowed, ValueBroken}
use Rattle.rules.specs.Words.{bit, some, allowed, in_group}
use Rattle.rules.specs.Refusals.{number_of}
use Rattle.rules.specs.Commands.{any_dword, base_row, spot, rows, the_row, group_size}
use Rattle.rules.specs.Uses.{uses_by_row, access_of, access_at, address_at, canonical, is_used, used_high_of}
use Rattle.rules.specs.Masks.{masks_of, allowed_of, allowed_at, bit_wrong}
use Rattle.rules.specs.Values.{value_rules, rule_of, high_wrong, value_wrong_of, value_wrong}
use Rattle.rules.specs.Addresses.{access_wrong, range_wrong}
use Rattle.rules.proofs.Searching.{and_left, and_right}
use Rattle.rules.proofs.Used.{used_or_kept}
use Rattle.plain_shared.specs.Plain.{first_coded, bare_of, no_windows, whole_header}
use Rattle.plain_shared.proofs.Bare.{Unasked}
use Rattle.plain_shared.proofs.Lengths.{listed}
use Rattle.plain_shared.proofs.Tests.{Test, answered, tested, content, searched_last, passed, stopped}
use Rattle.plain_shared.proofs.Headers.{within_mask}
use Rattle.plain_shared.proofs.LowAddresses.{low_kept_anyway, low_right_anyway}
use Rattle.plain_shared.proofs.Whole.{head_is, whole_decides}
use Rattle.plain_3d.specs.Usual.{all_keep, low_dwords, high_dwords, last_dwords, usual_base}
use Rattle.plain_3d.proofs.Rows.{base_row_lem}

-- a base is used, or is not, by one bit
pub used_if : (t : Bool) → is_used (cond t NoRange Unused) ≡ t
used_if true = refl
used_if false = refl

pub bases_unasked : Unasked base_row
unfolding uses_by_row access_of access_at range_wrong
bases_unasked w d k = by (some (eqb (spot base_row k)) (1 ∷ 4 ∷ 6 ∷ 8 ∷ 10 ∷ []) && bit (get_or d k 0) 0)
  where
    by : (t : Bool) → access_wrong w (address_at d k) (cond t NoRange Unused) ≡ false
    by true = refl
    by false = refl

-- tests of which none holds leave the answer behind them
none_tested : (number : ℕ) (bad : ℕ → Bool) → ((k : ℕ) → bad k ≡ false) → (k n later : ℕ) → tested number bad k n later ≡ later
unfolding tested
none_tested number bad never k zero later = refl
none_tested number bad never k (suc n) later = rw (never k) (none_tested number bad never (k + 1) n later)

-- 10 and 12 of its sixteen dwords, as the code asks them
abbrev base_bits_lem : List ℕ → ℕ → ℕ
base_bits_lem d later = tested 10 (bit_wrong base_row d) 0 16 later

abbrev base_values_lem : List ℕ → ℕ
base_values_lem d = tested 12 (value_wrong base_row d) 0 16 0

-- the dwords taken by themselves are those that are lent
own_dwords : (rest : List ℕ) → base_bits_lem (listed rest 0 16) (base_values_lem (listed rest 0 16)) ≡ base_bits_lem rest (base_values_lem rest)
unfolding tested bit_wrong allowed_at allowed_of masks_of rows the_row group_size in_group some
    value_rules rule_of high_wrong value_wrong_of value_wrong uses_by_row access_of used_high_of
own_dwords rest = refl

base_content : (rest : List ℕ) → content no_windows base_row (listed rest 0 16) First 16 ≡ base_bits_lem rest (base_values_lem rest)
unfolding content
base_content rest =
    ap (λ (later : ℕ). base_bits_lem (listed rest 0 16) (tested 12 (value_wrong base_row (listed rest 0 16)) 0 16 later))
    (none_tested 13 (range_wrong no_windows base_row (listed rest 0 16)) (bases_unasked no_windows (listed rest 0 16)) 0 16 0)
    ∙ own_dwords rest

-- what the code has asked of 10 decides, or what it has asked of 12 does
module _ (rest : List ℕ) {x : ℕ} (e : x ≡ whole_header rest 0x6101000E) (z : x ≡ 0) {y : ℕ}
    (b : y ≡ first_coded BitNotAllowed (bit_wrong base_row rest) 0 16) where
  decides : base_bits_lem rest (base_values_lem rest) ≡ bare_of base_row rest
  decides = sym (whole_decides base_row_lem no_windows rest First e z ∙ base_content rest)

  said : y ≡ base_bits_lem rest 0
  unfolding number_of
  said = b ∙ searched_last BitNotAllowed (bit_wrong base_row rest) 0 16

  pub bit_says : (y ≡ 0 → ⊥) → y ≡ bare_of base_row rest
  bit_says n =
      said
      ∙ stopped 10 (lit≤ tt) (bit_wrong base_row rest) 0 16 (λ q. n (said ∙ q)) (λ q. absurd (q refl))
      ∙ decides

  pub value_says : y ≡ 0 → {v : ℕ} → v ≡ first_coded ValueBroken (value_wrong base_row rest) 0 16 → v ≡ bare_of base_row rest
  unfolding number_of
  value_says q f =
      f
      ∙ searched_last ValueBroken (value_wrong base_row rest) 0 16
      ∙ sym (passed 10 (lit≤ tt) (bit_wrong base_row rest) 0 16 (sym said ∙ q)).1
      ∙ decides

-- 12 of the five bases, as the code asks it
abbrev pub value_tests : List ℕ → List Test
value_tests d =
    (not (not (bit (get_or d 1 0) 0 && not (canonical (get_or d 2 0)))), 3074)
    ∷ (not (not (bit (get_or d 4 0) 0 && not (canonical (get_or d 5 0)))), 3077)
    ∷ (not (not (bit (get_or d 6 0) 0 && not (canonical (get_or d 7 0)))), 3079)
    ∷ (not (not (bit (get_or d 8 0) 0 && not (canonical (get_or d 9 0)))), 3081)
    ∷ (not (not (bit (get_or d 10 0) 0 && not (canonical (get_or d 11 0)))), 3083)
    ∷ []

pub values_tested : (d : List ℕ) → answered (value_tests d) 0 ≡ first_coded ValueBroken (value_wrong base_row d) 0 16
unfolding number_of tested rows the_row group_size in_group some value_rules rule_of high_wrong value_wrong_of value_wrong uses_by_row access_of used_high_of
values_tested d = simp not-not (sym (searched_last ValueBroken (value_wrong base_row d) 0 16 ∙ simp (used_if, or-false)))

-- where each dword keeps its mask and the high dwords are below 8000h, neither 10 nor 12 has anything to say
each_keeps : (xs : List ℕ) (mask : ℕ) → all_keep xs mask ≡ true → (i : ℕ) → i < length xs → allowed (get_or xs i 0) mask ≡ true
unfolding all_keep
each_keeps [] mask e i h = absurd (omega arith)
each_keeps (x ∷ xs) mask e zero h = and_left (allowed x mask) _ e
each_keeps (x ∷ xs) mask e (suc i) h = each_keeps xs mask (and_right (allowed x mask) _ e) i (omega arith)

base_header_kept : allowed 0x6101000E 0x610100FF ≡ true
unfolding allowed
base_header_kept = refl

-- a high dword below 8000h keeps its mask, whether its base is used or not
high_kept_lem : (used : Bool) (high : ℕ) → high ≤ 0x7FFF → allowed high (cond (is_used (cond used NoRange Unused)) any_dword 0x0000FFFF) ≡ true
high_kept_lem used high h = rw (used_if used) (used_or_kept used high 0xFFFF (omega arith) ∙ low_kept_anyway used high h)

module _ (rest : List ℕ) (e : usual_base rest ≡ true) where
  behind_lows : (all_keep (high_dwords rest) 0x00007FFF && (allowed (get_or rest 3 0) 0x007F0000 && all_keep (last_dwords rest) 0xFFFFF001)) ≡ true
  behind_lows = and_right (all_keep (low_dwords rest) 0xFFFFF7F1) _ e

  behind_highs : (allowed (get_or rest 3 0) 0x007F0000 && all_keep (last_dwords rest) 0xFFFFF001) ≡ true
  behind_highs = and_right (all_keep (high_dwords rest) 0x00007FFF) _ behind_lows

  low : (i : ℕ) → i < 5 → allowed (get_or (low_dwords rest) i 0) 0xFFFFF7F1 ≡ true
  low i h = each_keeps (low_dwords rest) _ (and_left (all_keep (low_dwords rest) 0xFFFFF7F1) _ e) i h

  high : (i : ℕ) → i < 5 → get_or (high_dwords rest) i 0 ≤ 0x7FFF
  high i h = within_mask _ 0x7FFF (each_keeps (high_dwords rest) _ (and_left (all_keep (high_dwords rest) 0x00007FFF) _ behind_lows) i h)

  last : (i : ℕ) → i < 4 → allowed (get_or (last_dwords rest) i 0) 0xFFFFF001 ≡ true
  last i h = each_keeps (last_dwords rest) _ (and_right (allowed (get_or rest 3 0) 0x007F0000) _ behind_highs) i h

  -- the base whose low dword is at k, its high dword behind it
  by_bit_lem : (k : ℕ) (i : ℕ) → i < 5 → allowed (get_or (high_dwords rest) i 0) (cond (is_used (cond (bit (get_or rest k 0) 0) NoRange Unused)) any_dword 0x0000FFFF) ≡ true
  by_bit_lem k i h = high_kept_lem (bit (get_or rest k 0) 0) _ (high i h)

  no_bits : get_or rest 0 0 ≡ 0x6101000E → first_coded BitNotAllowed (bit_wrong base_row rest) 0 16 ≡ 0
  unfolding number_of tested bit_wrong allowed_at allowed_of masks_of in_group rows the_row group_size uses_by_row access_of used_high_of some
  no_bits head =
      searched_last BitNotAllowed (bit_wrong base_row rest) 0 16
      ∙ rw (
        head,
        base_header_kept,
        low 0 (lit< tt),
        by_bit_lem 1 0 (lit< tt),
        and_left (allowed (get_or rest 3 0) 0x007F0000) _ behind_highs,
        low 1 (lit< tt),
        by_bit_lem 4 1 (lit< tt),
        low 2 (lit< tt),
        by_bit_lem 6 2 (lit< tt),
        low 3 (lit< tt),
        by_bit_lem 8 3 (lit< tt),
        low 4 (lit< tt),
        by_bit_lem 10 4 (lit< tt),
        last 0 (lit< tt),
        last 1 (lit< tt),
        last 2 (lit< tt),
        last 3 (lit< tt),
      )

  right : (k i : ℕ) → i < 5 → not (bit (get_or rest k 0) 0 && not (canonical (get_or (high_dwords rest) i 0))) ≡ true
  right k i h = low_right_anyway (bit (get_or rest k 0) 0) _ (high i h)

  no_values : first_coded ValueBroken (value_wrong base_row rest) 0 16 ≡ 0
  no_values = sym (values_tested rest) ∙ rw (right 1 0 (lit< tt), right 4 1 (lit< tt), right 6 2 (lit< tt), right 8 3 (lit< tt), right 10 4 (lit< tt))

  pub usual_says : {x : ℕ} → x ≡ whole_header rest 0x6101000E → x ≡ 0 → 0 ≡ bare_of base_row rest
  usual_says q z = value_says rest q z (sym (no_bits (head_is rest _ q z))) refl (sym no_values)
