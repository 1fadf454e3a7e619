-- Laws of the writer's loops: the dwords that are left decide, and a copy behind a header.
-- Assumes nothing.
use Rattle.std.specs.Prelude.{Ok}
use Prim.Native.Nat.{ℕ, suc, ◌+◌, ◌-◌, ◌*◌, ◌/◌, ◌%◌, ◌^◌, ◌≤◌, ◌<◌}
use native.Mathlib.Numerals.{add-one}
use native.Mathlib.Omega.{arith}
use mathlib.Core.Path.{◌≡◌, refl, sym, ap, ◌∙◌}
use mathlib.Core.Bool.{Bool, true, false, not, ◌||◌}
use mathlib.Core.List.{List, [], ◌∷◌, ◌++◌, append_assoc}
use lib.ListN.{length, get_or, take, drop, set}
use native.Mathlib.Nat.{mod-lt}
use lib.Seq.{append_snoc, take_at, paste, take-suc-set, drop-set-lt, take-length}
use lib.Dec.{eqb}
use borrow.Author.Tests.{eqb-true, eq-eqb, ne_eqb, not-true}
use Rattle.rules.specs.Words.{allowed, in_group}
use Rattle.rules.specs.Commands.{Length, no_field, exactly, by_bit, groups, rows, row_count, the_row, group_size}
use Rattle.rules.specs.Masks.{allowed_of, allowed_at, bit_wrong}
use Rattle.rows.proofs.RowLaws.{size_small, some_size}
use Rattle.rules.specs.Writer.{count_right, header_for, some_from, written_by}
use Rattle.rules.proofs.Searching.{never_both}
use Rattle.rules.proofs.Writing.{made_small, field_of_count}
use Rattle.rules.proofs.Tables.{each, at_each}
use Rattle.rules.proofs.HeaderParts.{fielded}

-- what is asked of the dwords from k on has the answer of all of them
pub record Left (bad : ℕ → Bool) (len k : ℕ) : Type 0 where
  pub from : 1 ≤ k
  pub rest : some_from bad 1 (len - 1) ≡ some_from bad k (len - k)

module _ {bad : ℕ → Bool} {len k : ℕ} (l : Left bad len k) where
  more : k < len → len - k ≡ suc (len - (k + 1))
  more h = omega arith

  pub found : k < len → bad k ≡ true → false ≡ not (some_from bad 1 (len - 1))
  unfolding some_from
  found h e = sym (ap not (l.rest ∙ ap (some_from bad k) (more h) ∙ ap (λ (b : Bool). b || some_from bad (k + 1) (len - (k + 1))) e))

  pub goes_on : k < len → bad k ≡ false → Left bad len (k + 1)
  unfolding some_from
  goes_on h e =
      record {
        from = omega (arith, l.from);
        rest = l.rest ∙ ap (some_from bad k) (more h) ∙ ap (λ (b : Bool). b || some_from bad (k + 1) (len - (k + 1))) e;
      }

  pub none_left : len ≤ k → true ≡ not (some_from bad 1 (len - 1))
  unfolding some_from
  none_left h = let z : len - k ≡ 0 = omega arith in sym (ap not (l.rest ∙ ap (some_from bad k) z))

-- which dword of its group a dword behind the header is
pub place_is : (size k : ℕ) → 1 ≤ k → 1 + (k - 1) % size ≡ in_group size k
unfolding in_group
place_is size k h = rw (ne_eqb k 0 (λ q. omega arith))

-- behind the header a group has dwords, and no more than fifteen
pub place_few : (r k len : ℕ) → r < row_count → (group_size r ≡ 0 → len ≤ 1) → 1 ≤ k → k < len → 1 + (k - 1) % group_size r < 16
place_few r k len known none from h =
    omega (arith, mod-lt (k - 1) (some_size (group_size r) len none (omega arith)), size_small r known)

-- what the code asks of a dword
pub asked : (row size k : ℕ) (d : List ℕ) {wrong : Bool} → wrong ≡ not (allowed (get_or d k 0) (allowed_of row d k (1 + (k - 1) % size)))
    → size ≡ group_size row → 1 ≤ k → wrong ≡ bit_wrong row d k
unfolding bit_wrong allowed_at
asked row size k d e same from =
    e
    ∙ ap (λ (j : ℕ). not (allowed (get_or d k 0) (allowed_of row d k j)))
    (ap (λ (n : ℕ). 1 + (k - 1) % n) same ∙ place_is (group_size row) k from)

-- the header as a sum, which fits a dword
pub header_small : (r free n : ℕ) → r < row_count → count_right (the_row r).total (group_size r) free n ≡ true → allowed free (the_row r).free ≡ true
    → (the_row r).key + (free + (n - 1)) < 2 ^ 32
unfolding header_for
header_small r free n known count kept =
    rw (field_of_count (the_row r).total (group_size r) free n count) at (made_small r free n known count kept)

-- a header, and a copy of the dwords behind it
pub copied : (old dwords : List ℕ) (first header : ℕ) → first + (1 + length dwords) ≤ length old
    → paste (set old first header) (first + 1) dwords (length dwords) ≡ written_by (Ok tt) (header ∷ dwords) first old
copied old dwords first header fits =
    let a : first + 1 ≡ suc first = add-one first in
    let e : first + 1 + length dwords ≡ first + (1 + length dwords) = omega arith in
    let head = ap (λ (n : ℕ). take n (set old first header)) a ∙ take-suc-set old first header (omega arith) in
    let rest = ap (λ (n : ℕ). drop n (set old first header)) e ∙ drop-set-lt (first + (1 + length dwords)) old first header (omega arith) in
    let one : 1 + length dwords ≡ suc (length dwords) = omega arith in
    rw (head, rest, take-length dwords)
    (append_assoc (take first old ++ (header ∷ [])) dwords _
    ∙ append_snoc (take first old) header _
    ∙ ap (λ (n : ℕ). take first old ++ (header ∷ (dwords ++ drop (first + n) old))) one)

-- what was put at the start of a buffer stands there
pub stands_first : (command old : List ℕ) (n : ℕ) → length command ≡ n → take n (written_by (Ok tt) command 0 old) ≡ command
stands_first command old n e = take_at command _ n e

-- a row without dwords in its groups has none after its header
bare_tested : each (λ r. not (eqb (group_size r) 0) || not (fielded (the_row r).total)) row_count ≡ true
unfolding each rows the_row group_size
bare_tested = refl

pub no_group : (r free n : ℕ) → r < row_count → count_right (the_row r).total (group_size r) free n ≡ true → group_size r ≡ 0 → n ≡ 0
no_group r free n h e z =
    by (the_row r).total e
    (not-true _ (sym (ap (λ (b : Bool). not b || not (fielded (the_row r).total)) (eq-eqb (group_size r) 0 z))
    ∙ at_each (λ r. not (eqb (group_size r) 0) || not (fielded (the_row r).total)) row_count bare_tested r h))
  where
    by : (l : Length) → count_right l (group_size r) free n ≡ true → fielded l ≡ false → n ≡ 0
    by no_field e t = eqb-true n 0 e
    by (exactly f) e t = absurd (never_both refl t)
    by (by_bit b f g) e t = absurd (never_both refl t)
    by (groups most) e t = absurd (never_both refl t)

-- bit 21 as the one bit above a field
pub switch_told : (x n : ℕ) → x < 2 → n ≤ 256 → (x * 0x200000 + (n - 1)) / 2 ^ 21 % 2 ≡ x
switch_told x n h l = omega arith

pub field_told : (x n : ℕ) → 1 ≤ n → n ≤ 256 → (x * 0x200000 + (n - 1)) / 2 ^ 0 % 2 ^ 8 + 1 ≡ n
field_told x n h l = omega arith
