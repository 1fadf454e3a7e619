-- Laws of the table of rows, over the row and the header, for the functions that read it off.
-- Assumes nothing.
use Prim.Native.Nat.{ℕ, zero, suc, ◌≤◌, ◌<◌}
use native.Mathlib.Omega.{arith}
use mathlib.Core.Path.{◌≡◌, refl}
use mathlib.Core.Bool.{true}
use mathlib.Core.List.{[]}
use lib.ListN.{get_or, get_or-eq_default}
use lib.Dec.{eqb, leb}
use borrow.Author.Tests.{eqb-true, leb-true}
use Rattle.rules.specs.Commands.{no_field, rows, the_row, length_of, group_size, length_right, row_count}
use Rattle.rules.specs.Masks.{masks_of}
use Rattle.rows.specs.Masks.{mask_rows, mask_table}
use Rattle.rules.proofs.Tables.{each, at_each}

-- the shape of what a `match` over 0, 1, .. n - 1 leaves its last arm
abbrev pub Rest : ℕ → ℕ → Type 0
Rest zero r = Unit {0}
Rest (suc n) r = Rest n r × (r ≡ n → ⊥)

pub past : (n r : ℕ) → Rest n r → n ≤ r
past zero r rest = omega arith
past (suc n) r rest = let h : n ≤ r = past n r rest.0 in let k = rest.1 in omega arith

-- past the table's end
pub no_row : (r : ℕ) → row_count ≤ r → the_row r ≡ record { key = 0; free = 0; total = no_field; masks = [] }
unfolding rows the_row
no_row r h = get_or-eq_default rows _ h

pub length_past : (r header : ℕ) → row_count ≤ r → 1 ≡ length_of r header
unfolding length_of
length_past r header h = rw (no_row r h)

pub size_past : (r : ℕ) → row_count ≤ r → 0 ≡ group_size r
unfolding group_size
size_past r h = rw (no_row r h)

pub right_past : (r header : ℕ) → row_count ≤ r → true ≡ length_right r header
unfolding length_right
right_past r header h = rw (no_row r h)

-- no group has more than fifteen dwords
sizes_tested : each (λ r. leb (group_size r) 15) row_count ≡ true
unfolding each rows the_row group_size
sizes_tested = refl

pub size_small : (r : ℕ) → r < row_count → group_size r ≤ 15
size_small r h = leb-true _ _ (at_each (λ k. leb (group_size k) 15) row_count sizes_tested r h)

-- the table that the code lends has each row's masks, and allows nothing past them
masks_tested : each (λ r. each (λ j. eqb (get_or (get_or mask_table r []) j 0) (get_or (masks_of r) j 0)) 16) row_count ≡ true
unfolding each rows the_row masks_of mask_rows mask_table
masks_tested = refl

pub table_mask : (r j : ℕ) → r < row_count → j < 16 → get_or (get_or mask_table r []) j 0 ≡ get_or (masks_of r) j 0
table_mask r j h k =
    eqb-true _ _
    (at_each (λ j. eqb (get_or (get_or mask_table r []) j 0) (get_or (masks_of r) j 0)) 16
    (at_each (λ r. each (λ j. eqb (get_or (get_or mask_table r []) j 0) (get_or (masks_of r) j 0)) 16) row_count masks_tested r h) j k)

-- where there is a dword behind the header, a group has dwords
pub some_size : (size len : ℕ) → (size ≡ 0 → len ≤ 1) → 1 < len → 0 < size
some_size zero len n h = absurd (omega (arith, n refl))
some_size (suc size) len n h = omega arith
