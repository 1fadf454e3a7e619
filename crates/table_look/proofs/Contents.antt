-- The ways out of the checks of a command's dwords, 10 to 13, and what the code calls the row, the length and the dwords.
-- Assumes nothing.
use Rattle.std.specs.Prelude.{Ok, Err, Some, None}
use Prim.Native.Nat.{ℕ, ◌+◌, ◌-◌, ◌%◌, ◌≤◌, ◌<◌}
use native.Mathlib.Nat.{zero-mod, mod_self}
use native.Mathlib.Omega.{arith}
use mathlib.Core.Path.{◌≡◌, refl, sym, ap, ◌∙◌, subst}
use mathlib.Core.Bool.{Bool, true, false, cond, not, ◌||◌, or-true}
use mathlib.Core.List.{List}
use lib.ListN.{length, take, drop, length-take, length-drop}
use lib.Dec.{eqb, ltb}
use borrow.Author.Tests.{eqb-true, eq-eqb, ne_eqb, ltb-true, ltb-false, not-false}
use Rattle.rules.specs.declared.Windows.{Windows}
use Rattle.rules.specs.declared.Level.{Level}
use Rattle.rules.specs.declared.Level.TheVariants.{First, Second}
use Rattle.rules.specs.declared.Reason.TheVariants.{WrongLength, PastTheWindow, BitNotAllowed, NestedStart, ValueBroken, RangeOutside}
use Rattle.rules.specs.Words.{field, first_of}
use Rattle.rules.specs.Refusals.{batch_window, fault}
use Rattle.rules.specs.Commands.{Length, no_field, exactly, by_bit, groups, rows, the_row, dword_count, field_right, length_of, group_size, row_count, length_right}
use Rattle.rules.specs.Commands.{start_row, store_row}
use Rattle.rules.specs.Uses.{access_at}
use Rattle.rules.specs.Masks.{allowed_of, allowed_at, bit_wrong}
use Rattle.rules.specs.Values.{value_wrong}
use Rattle.rules.specs.Addresses.{range_wrong}
use Rattle.rules.specs.Step.{header_at, row_at, length_at, dwords_at, nested}
use Rattle.rules.proofs.Searching.{some_left, some_right, and_left}
use Rattle.rules.proofs.Tables.{each, at_each}
use Rattle.looks.specs.Looks.{content_of, look_of}
use Rattle.looks.proofs.LookLaws.{misfit_look, past_look, dwords_are}
use Rattle.search.specs.declared.Sought.TheVariants.{Bits, Values, Ranges}
use Rattle.search.specs.Search.{wrong_at, wrong, Whole}

-- the ways out of the checks of the dwords
module _ (w : Windows) (r : ℕ) (d : List ℕ) (at : ℕ) (level : Level) where
  pub bits_fail : {k : ℕ} → first_of (wrong Bits w r d) (length d) ≡ Some k
      → Err (fault BitNotAllowed batch_window (at + k)) ≡ content_of w r d at level
  unfolding content_of wrong wrong_at bit_wrong allowed_of allowed_at
  bits_fail e = rw e

  module _ (b : first_of (wrong Bits w r d) (length d) ≡ None) where
    pub nested_fails : nested r level ≡ true → Err (fault NestedStart batch_window at) ≡ content_of w r d at level
    unfolding content_of wrong wrong_at bit_wrong allowed_of allowed_at
    nested_fails n = rw (b, n)

    module _ (n : nested r level ≡ false) where
      pub values_fail : {k : ℕ} → first_of (wrong Values w r d) (length d) ≡ Some k
          → Err (fault ValueBroken batch_window (at + k)) ≡ content_of w r d at level
      unfolding content_of wrong wrong_at bit_wrong allowed_of allowed_at value_wrong
      values_fail e = rw (b, n, e)

      module _ (v : first_of (wrong Values w r d) (length d) ≡ None) where
        pub ranges_fail : {k : ℕ} → first_of (wrong Ranges w r d) (length d) ≡ Some k
            → Err (fault RangeOutside batch_window (at + k)) ≡ content_of w r d at level
        unfolding content_of wrong wrong_at bit_wrong allowed_of allowed_at value_wrong range_wrong access_at
        ranges_fail e = rw (b, n, v, e)

        pub all_clear : first_of (wrong Ranges w r d) (length d) ≡ None → Ok tt ≡ content_of w r d at level
        unfolding content_of wrong wrong_at bit_wrong allowed_of allowed_at value_wrong range_wrong access_at
        all_clear e = rw (b, n, v, e)

-- no other row than a start is refused at level 1
pub not_nested : (r : ℕ) (level : Level) → (r ≡ start_row → ⊥) → false ≡ nested r level
not_nested r First n = refl
not_nested r (Second back) n = sym (ne_eqb r start_row n)

-- 8 and 9 are one test: where it stops the length tells them apart
module _ (w : Windows) (batch : List ℕ) (at : ℕ) (level : Level) (k : row_at batch at < row_count) where
  pub unfit_look : (right : Bool) → length_right (row_at batch at) (header_at batch at) ≡ right
      → (not right || ltb (length batch - at) (length_at batch at)) ≡ true
      → Err (fault (cond right PastTheWindow WrongLength) batch_window at) ≡ look_of w batch at level
  unfit_look true e stops = past_look w batch at level k e (omega (arith, ltb-true (length batch - at) (length_at batch at) stops))
  unfit_look false e stops = misfit_look w batch at level k e

pub right_passed : (right short : Bool) → (not right || short) ≡ false → right ≡ true
right_passed right short e = not-false right (some_left (not right) short e)

pub long_passed : (right : Bool) (room len : ℕ) → (not right || ltb room len) ≡ false → len ≤ room
long_passed right room len e = ltb-false room len (some_right (not right) (ltb room len) e)

-- the code's numbers are those of the definitions: the row and the length
pub length_is : (batch : List ℕ) (at : ℕ) {row len : ℕ} → row ≡ row_at batch at → len ≡ length_of row (header_at batch at)
    → len ≡ length_at batch at
length_is batch at er el = el ∙ ap (λ (r : ℕ). length_of r (header_at batch at)) er

pub right_is : (batch : List ℕ) (at : ℕ) {row : ℕ} {t u : Bool} → row ≡ row_at batch at → t ≡ length_right row (header_at batch at)
    → t ≡ u → length_right (row_at batch at) (header_at batch at) ≡ u
right_is batch at er et e = ap (λ (r : ℕ). length_right r (header_at batch at)) (sym er) ∙ sym et ∙ e

-- what the code calls the row and the command's dwords
pub content_same : (w : Windows) (batch : List ℕ) (at : ℕ) (level : Level) {row len : ℕ} → row ≡ row_at batch at
    → len ≡ length_at batch at
    → content_of w row (take (at + len - at) (drop at batch)) at level ≡ content_of w (row_at batch at) (dwords_at batch at) at level
content_same w batch at level er el = rw (er, dwords_are batch at el)

-- a command whose length is right has whole groups, but for a store: by what the table says of its row's length
whole_by : Length → ℕ → ℕ → Bool
whole_by no_field size r = true
whole_by (exactly f) size r = eqb size (f + 1)
whole_by (by_bit b f g) size r = eqb r store_row
whole_by (groups n) size r = true

whole_tested : each (λ r. whole_by (the_row r).total (group_size r) r) row_count ≡ true
unfolding each rows the_row group_size whole_by
whole_tested = refl

whole_groups : (t : Length) (size r header : ℕ) → whole_by t size r ≡ true → field_right t size header ≡ true
    → (eqb r store_row || eqb ((dword_count t header - 1) % size) 0) ≡ true
unfolding whole_by
whole_groups no_field size r header e f = rw (eq-eqb (0 % size) 0 (zero-mod size), or-true)
whole_groups (exactly g) size r header e f =
    let one = eqb-true size (g + 1) e in
    let field = eqb-true _ g f in
    rw (eq-eqb ((dword_count (exactly g) header - 1) % size) 0 (ap (λ (n : ℕ). n % size) (omega (arith, one, field)) ∙ mod_self size), or-true)
whole_groups (by_bit b g h) size r header e f = rw e
whole_groups (groups n) size r header e f =
    let whole : (field header 7 0 + 1) % size ≡ 0 = eqb-true _ 0 (and_left (eqb ((field header 7 0 + 1) % size) 0) _ f) in
    let behind : field header 7 0 + 2 - 1 ≡ field header 7 0 + 1 = omega arith in
    rw (eq-eqb ((dword_count (groups n) header - 1) % size) 0 (ap (λ (k : ℕ). k % size) behind ∙ whole), or-true)

some_dwords : (t : Length) (header : ℕ) → 1 ≤ dword_count t header
some_dwords no_field header = omega arith
some_dwords (exactly f) header = omega arith
some_dwords (by_bit b f g) header = omega arith
some_dwords (groups n) header = omega arith

whole_command : (r header : ℕ) → r < row_count → length_right r header ≡ true → Whole r (length_of r header)
unfolding length_of length_right
whole_command r header h e =
    record {
      header = some_dwords (the_row r).total header;
      groups = whole_groups (the_row r).total (group_size r) r header (at_each (λ k. whole_by (the_row k).total (group_size k) k) row_count whole_tested r h) e;
    }

-- the part of the batch that the code takes for a command has its dwords
part_long : (batch : List ℕ) (at len : ℕ) → at + len ≤ length batch → length (take (at + len - at) (drop at batch)) ≡ len
part_long batch at len h = omega (arith, length-take (at + len - at) (drop at batch), length-drop at batch)

pub whole_part : (batch : List ℕ) (at : ℕ) {row len : ℕ} → row < row_count → length_right row (header_at batch at) ≡ true
    → len ≡ length_of row (header_at batch at)
    → at + len ≤ length batch
    → Whole row (length (take (at + len - at) (drop at batch)))
whole_part batch at {row} {len} h right e below =
    subst (λ (n : ℕ). Whole row n) (sym (part_long batch at len below ∙ e)) (whole_command row (header_at batch at) h right)

-- and its end is no more than the batch's
pub part_below : (batch : List ℕ) (at len : ℕ) → at + len ≤ length batch
    → at + length (take (at + len - at) (drop at batch)) ≤ length batch
part_below batch at len h = omega (arith, part_long batch at len h)
