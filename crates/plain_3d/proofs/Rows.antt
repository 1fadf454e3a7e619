-- The rows of type 3 with one length whose header has no free bits: what the table says of them, and their tests as the code asks them.
-- Assumes nothing.
use Prim.Native.Nat.{ℕ, ◌%◌, ◌^◌, ◌<◌}
use mathlib.Core.Path.{◌≡◌, refl, sym, ap, ◌∙◌}
use mathlib.Core.Bool.{cond, not, or-false}
use mathlib.Core.List.{List, [], ◌∷◌}
use lib.ListN.{get_or}
use lib.Dec.{eqb, lit≤}
use borrow.Author.Tests.{eq-eqb, ne_eqb}
use Rattle.rules.specs.declared.Windows.{Windows}
use Rattle.rules.specs.declared.Within.TheVariants.{ScratchOnly}
use Rattle.rules.specs.declared.Level.TheVariants.{First}
use Rattle.rules.specs.declared.Reason.TheVariants.{ValueBroken}
use Rattle.rules.specs.Words.{allowed, in_group}
use Rattle.rules.specs.Refusals.{number_of}
use Rattle.rules.specs.Windows.{fits}
use Rattle.rules.specs.Formats.{known_topology}
use Rattle.rules.specs.Commands.{pipe_row, base_row, topology_row, rows, the_row, group_size}
use Rattle.rules.specs.Uses.{post_sync, uses_by_row, access_of, access_at, pair_address, address_at, canonical, used_high_of}
use Rattle.rules.specs.Masks.{masks_of, allowed_of, allowed_at, bit_wrong}
use Rattle.rules.specs.Values.{value_rules, rule_of, high_wrong, value_wrong_of, value_wrong}
use Rattle.rules.specs.Addresses.{range_wrong}
use Rattle.plain_shared.specs.Plain.{first_coded, wrong_of, whole_header}
use Rattle.rules.proofs.Used.{any_dword_lem}
use Rattle.plain_shared.proofs.Tests.{Test, answered, tested, content, searched_last}
use Rattle.plain_shared.proofs.Whole.{WholeRow, head_is, whole_decides}

pub pipe_row_lem : WholeRow pipe_row 0x7A000004
unfolding rows the_row
pipe_row_lem = record { known = lit≤ tt; total = refl; key = refl; free = refl }

pub base_row_lem : WholeRow base_row 0x6101000E
unfolding rows the_row
base_row_lem = record { known = lit≤ tt; total = refl; key = refl; free = refl }

pub topology_row_lem : WholeRow topology_row 0x784B0000
unfolding rows the_row
topology_row_lem = record { known = lit≤ tt; total = refl; key = refl; free = refl }

-- row 7: 10 of its first two dwords, and behind them 10 of the high dword, 12 and 13
abbrev pub pipe_bits : List ℕ → List Test
pipe_bits d = (not (allowed (get_or d 1 0) 0x0010FCBF), 2561) ∷ (not (allowed (get_or d 2 0) 0xFFFFFFFC), 2562) ∷ []

abbrev pipe_rest : Windows → List ℕ → ℕ
pipe_rest w d = tested 12 (value_wrong pipe_row d) 0 6 (tested 13 (range_wrong w pipe_row d) 0 6 0)

abbrev pub pipe_behind : Windows → List ℕ → ℕ
pipe_behind w d = cond (bit_wrong pipe_row d 3) 2563 (pipe_rest w d)

-- which are these with post-sync
abbrev pub pipe_tests : Windows → List ℕ → List Test
pipe_tests w d =
    (not (eqb (get_or d 2 0 % 8) 0), 3074)
    ∷ (not (canonical (get_or d 3 0)), 3075)
    ∷ (not (fits w ScratchOnly (pair_address (get_or d 2 0) (get_or d 3 0)) 8), 3330)
    ∷ []

-- and these without
abbrev pub unsynced_tests : List ℕ → List Test
unsynced_tests d = (not (allowed (get_or d 3 0) 0x0000FFFF), 2563) ∷ []

-- row 13
abbrev pub topology_tests : List ℕ → List Test
topology_tests d = (not (allowed (get_or d 1 0) 0x0000003F), 2561) ∷ (not (known_topology (get_or d 1 0)), 3073) ∷ []

module _ (w : Windows) (rest : List ℕ) where
  pub pipe_tested : {x : ℕ} → x ≡ whole_header rest 0x7A000004 → x ≡ 0 → get_or rest 4 0 < 2 ^ 32 → get_or rest 5 0 < 2 ^ 32
      → answered (pipe_bits rest) (pipe_behind w rest) ≡ wrong_of w pipe_row rest First
  unfolding content tested bit_wrong allowed allowed_at allowed_of masks_of rows the_row group_size in_group
      value_rules rule_of high_wrong value_wrong_of value_wrong uses_by_row access_of access_at used_high_of range_wrong address_at
  pipe_tested e z fourth fifth =
      sym (whole_decides pipe_row_lem w rest First e z ∙ rw (head_is rest _ e z, any_dword_lem _ fourth, any_dword_lem _ fifth))

  no_range : post_sync rest ≡ 0 → tested 13 (range_wrong w pipe_row rest) 0 6 0 ≡ 0
  unfolding tested rows the_row group_size in_group uses_by_row access_of access_at range_wrong
  no_range e = rw (eq-eqb _ _ e)

  pub pipe_unsynced_lem : post_sync rest ≡ 0 → answered (unsynced_tests rest) (first_coded ValueBroken (value_wrong pipe_row rest) 0 6) ≡ pipe_behind w rest
  unfolding number_of bit_wrong allowed_at allowed_of masks_of rows the_row group_size in_group uses_by_row access_of used_high_of
  pipe_unsynced_lem e =
      rw (eq-eqb _ _ e)
      (ap (cond (not (allowed (get_or rest 3 0) 0x0000FFFF)) 2563)
      (searched_last ValueBroken (value_wrong pipe_row rest) 0 6 ∙ ap (tested 12 (value_wrong pipe_row rest) 0 6) (sym (no_range e))))

  pub pipe_synced : (post_sync rest ≡ 0 → ⊥) → get_or rest 3 0 < 2 ^ 32 → answered (pipe_tests w rest) 0 ≡ pipe_behind w rest
  unfolding tested bit_wrong allowed_at allowed_of rows the_row group_size in_group
      value_rules rule_of high_wrong value_wrong_of value_wrong uses_by_row access_of access_at used_high_of range_wrong address_at
  pipe_synced n third = rw (ne_eqb _ _ n, any_dword_lem _ third, or-false (not (canonical (get_or rest 3 0))))

  pub topology_tested : {x : ℕ} → x ≡ whole_header rest 0x784B0000 → x ≡ 0 → answered (topology_tests rest) 0 ≡ wrong_of w topology_row rest First
  unfolding content tested bit_wrong allowed allowed_at allowed_of masks_of rows the_row group_size in_group
      value_rules rule_of high_wrong value_wrong_of value_wrong uses_by_row access_of access_at used_high_of range_wrong
  topology_tested e z = sym (whole_decides topology_row_lem w rest First e z ∙ rw (head_is rest _ e z))
