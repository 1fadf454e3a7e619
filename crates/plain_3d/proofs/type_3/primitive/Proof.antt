-- `plain_3d::type_3::primitive` meets its contract: the ways out in the order of the refusals.
-- Assumes nothing.
use Prim.Native.Nat.{ℕ, ◌+◌, ◌-◌, ◌*◌, ◌/◌, ◌%◌}
use native.Mathlib.Omega.{arith}
use mathlib.Core.Path.{◌≡◌, refl, ◌∙◌}
use mathlib.Core.Bool.{true}
use lib.ListN.{get_or}
use lib.Dec.{lit≤}
use borrow.Author.Rules.{rules}
use borrow.Author.Tests.{eq-eqb, ne_eqb}
use Rattle.rules.specs.declared.Reason.TheVariants.{ValueBroken}
use Rattle.rules.specs.declared.Level.TheVariants.{First}
use Rattle.rules.specs.Words.{allowed, in_group, first_from}
use Rattle.rules.specs.Refusals.{batch_window, number_of, refuse_found}
use Rattle.rules.specs.Commands.{primitive_row, exactly, rows, the_row, group_size}
use Rattle.rules.specs.Uses.{address_at, uses_by_row, access_of, access_at, used_high_of}
use Rattle.rules.specs.Masks.{masks_of, allowed_of, allowed_at, bit_wrong}
use Rattle.rules.specs.Values.{value_rules, rule_of, value_wrong, high_wrong, value_wrong_of}
use Rattle.rules.specs.Addresses.{range_wrong}
use Rattle.rules.proofs.Tables.{each, at_each}
use Rattle.looks.specs.Looks.{content_of}
use Rattle.plain_shared.specs.Plain.{coded}
use Rattle.rules.proofs.Used.{any_dword_lem}
use Rattle.plain_shared.proofs.Headers.{other_exact}
use Rattle.plain_shared.proofs.Lengths.{exact_past, exact_says}
use Rattle.plain_shared.proofs.Tests.{asked}
use Rattle.plain_shared.proofs.Coding.{alone}
use Rattle.plain_3d.proofs.type_3.primitive.Statement.{statement}
use Rattle.plain_3d.proofs.type_3.primitive.Tie as tie

row : (the_row primitive_row).total ≡ exactly 5
unfolding rows the_row
row = refl

-- a header with any of its free bits keeps its mask
free_bits_tested : each (λ j. allowed (0x7B000005 + 256 * j) 0x7B0007FF) 8 ≡ true
unfolding each allowed
free_bits_tested = refl

header_kept : (header : ℕ) → header - header / 256 % 8 * 256 ≡ 0x7B000005 → allowed header 0x7B0007FF ≡ true
header_kept header e =
    let h : 0x7B000005 + 256 * (header / 256 % 8) ≡ header = omega arith in
    rw h at (at_each (λ j. allowed (0x7B000005 + 256 * j) 0x7B0007FF) 8 free_bits_tested (header / 256 % 8) (omega arith))

other_header_lem : tie.Need-returns-then-header-ne2063597573
unfolding rows the_row
other_header_lem c =
    let start = c.before.before.before.before in
    c.other_header.ensures ∙ other_exact _ primitive_row _ First 5 (lit≤ tt) row start.requires.1 (λ e low high. c.if-header-ne2063597573.true (omega arith))

-- the field of such a header
field_5 : (h : ℕ) → h - h / 256 % 8 * 256 ≡ 0x7B000005 → h % 256 ≡ 5
field_5 h e = omega arith

past : tie.Need-returns-then-rest-lt7
unfolding number_of
past c = c.at.ensures ∙ exact_past primitive_row 5 row _ _ _ (field_5 _ c.if-header-ne2063597573.false) c.if-rest-lt7.true

bit : tie.Need-returns-then-not-allowed
unfolding coded content_of first_from number_of bit_wrong allowed_at allowed_of masks_of in_group rows the_row group_size access_of uses_by_row used_high_of
bit c =
    let called = c.before.before in
    let whole = called.before.before in
    let header = whole.if-header-ne2063597573.false in
    exact_says primitive_row 5 row _ _ _ (field_5 _ header) whole.if-rest-lt7.false
    (rw (header_kept _ header, asked called.allowed.ensures c.if-not-allowed.true-raw) c.at-then-not-allowed.ensures)

by_end : tie.Need-returns-then-rest-eq1
unfolding coded content_of first_from number_of bit_wrong allowed_at allowed_of masks_of in_group rows the_row group_size
    high_wrong value_wrong_of value_wrong value_rules rule_of range_wrong address_at access_at access_of uses_by_row used_high_of
by_end c =
    let masked = c.before.before.before in
    let whole = masked.before.before.before in
    let header = whole.if-header-ne2063597573.false in
    let start = whole.before.before.before.before in
    let rest = start.args.rest.now in
    let known = whole.shared_slice_known-1 in
    let values = refuse_found ValueBroken batch_window 0 (first_from (value_wrong primitive_row rest) 0 7) in
    exact_says primitive_row 5 row _ _ _ (field_5 _ header) whole.if-rest-lt7.false
    (rw (
      header_kept _ header,
      asked masked.allowed.ensures masked.if-not-allowed.false-raw,
      any_dword_lem (get_or rest 2 0) (omega (arith, known.given 2)),
      any_dword_lem (get_or rest 3 0) (omega (arith, known.given 3)),
      any_dword_lem (get_or rest 4 0) (omega (arith, known.given 4)),
      any_dword_lem (get_or rest 5 0) (omega (arith, known.given 5)),
      any_dword_lem (get_or rest 6 0) (omega (arith, known.given 6)),
    ) (c.primitive_by_end.ensures ∙ alone values))

nothing : tie.Need-returns
unfolding coded content_of first_from number_of bit_wrong allowed_at allowed_of masks_of in_group rows the_row group_size
    high_wrong value_wrong_of value_wrong value_rules rule_of range_wrong address_at access_at access_of uses_by_row used_high_of
nothing c =
    let masked = c.before.before in
    let whole = masked.before.before.before in
    let header = whole.if-header-ne2063597573.false in
    let start = whole.before.before.before.before in
    let rest = start.args.rest.now in
    let known = whole.shared_slice_known-1 in
    exact_says primitive_row 5 row _ _ _ (field_5 _ header) whole.if-rest-lt7.false
    (rw (
      header_kept _ header,
      asked masked.allowed.ensures masked.if-not-allowed.false-raw,
      any_dword_lem (get_or rest 2 0) (omega (arith, known.given 2)),
      any_dword_lem (get_or rest 3 0) (omega (arith, known.given 3)),
      any_dword_lem (get_or rest 4 0) (omega (arith, known.given 4)),
      any_dword_lem (get_or rest 5 0) (omega (arith, known.given 5)),
      any_dword_lem (get_or rest 6 0) (omega (arith, known.given 6)),
      ne_eqb _ _ c.if-rest-eq1.false,
    ))

by_end_requires : tie.Need-primitive_by_end-requires
by_end_requires c κs = (search rules, search rules, eq-eqb _ _ c.if-rest-eq1.true)

pub primitive_spec : {M : Type 1} → statement M
primitive_spec =
    tie.close
    (tie.spec (λ c. search rules) (λ c. search rules) (λ c. search rules) (λ c κs. search rules) other_header_lem
    (λ c κs. search rules) past
    (λ c. search rules) (λ c κs. search rules) (λ c κs. search rules) bit
    (λ c. search rules) by_end_requires by_end nothing)
