-- Laws of the writer: how many dwords a row has, what is written is read back, and any command is written back; and one answer only.
-- Assumes nothing.
use Rattle.std.specs.Prelude.{Ok, None}
use Prim.Native.Nat.{ℕ, zero, suc, ◌+◌, ◌-◌, ◌*◌, ◌/◌, ◌%◌, ◌^◌, ◌≤◌, ◌<◌, min}
use native.Mathlib.Nat.{div-add-mod', div-le_self, mul-le-mul_right, mod-lt, zero-div, min-le_left, min-le_right, min-eq_left}
use native.Mathlib.Omega.{arith}
use mathlib.Core.Path.{◌≡◌, refl, sym, ap, ◌∙◌}
use mathlib.Core.Bool.{Bool, true, false, cond, not, ◌&&◌, ◌||◌, and-false}
use mathlib.Core.List.{List, ◌∷◌}
use mathlib.Core.Logic.{⊎_elim}
use lib.Arith.{bin_ind}
use lib.Bits.{bit_and, and_high, and_step, and_zero_l}
use lib.ListN.{length}
use lib.Dec.{leb, eqb, lit<}
use borrow.Author.Tests.{eqb-true, eqb-false, eq-eqb, ne_eqb, leb-true, leb-false, lt-leb, le-ltb, ltb-false, not-false}
use Rattle.rules.specs.declared.Answer.{Answer}
use Rattle.rules.specs.Words.{bit, field, allowed, first_from, first_of}
use Rattle.rules.specs.Refusals.{AllPass}
use Rattle.rules.specs.Commands.{Length, no_field, exactly, by_bit, groups, row_count, rows, the_row, group_size, field_right, length_right, dword_count, row_of, length_of}
use Rattle.rules.specs.Masks.{field_bits, header_mask, bit_wrong}
use Rattle.rules.specs.Writer.{Draft, draft, count_right, field_for, header_for, command_for, some_from, row_unknown, count_wrong, bit_stray, room_short, write_checks, write_verdict, Written}
use Rattle.rules.proofs.Searching.{either, never_both, and_left, and_right, some_left, some_right, search_passes, none_found, finds_none}
use Rattle.rules.proofs.Trying.{all_pass, no_fault, refuse_passes}
use Rattle.rules.proofs.Tables.{each, at_each}
use Rattle.rules.proofs.Used.{header_bits}
use Rattle.rules.proofs.HeaderParts.{fielded, Parts, put_together, taken_apart, Header, of_parts, Apart, header_apart}

-- a number and the next
next_equal : (a b : ℕ) → eqb a b ≡ eqb (a + 1) (b + 1)
next_equal a b =
    ⊎_elim (λ e. let q = eqb-true a b e in e ∙ sym (eq-eqb (a + 1) (b + 1) (omega arith)))
    (λ e. e ∙ sym (ne_eqb (a + 1) (b + 1) (λ q. eqb-false a b e (omega arith)))) (either (eqb a b))

-- "a dword count the row does not have" is "length field wrong", of a header that tells so many dwords and has the bit that decides
pub counts_told : (l : Length) (size header free n : ℕ) → fielded l ≡ true → field header 7 0 + 1 ≡ n
    → ((b f g : ℕ) → l ≡ by_bit b f g → bit header b ≡ bit free b) → field_right l size header ≡ count_right l size free n
counts_told no_field size header free n t e same = absurd (never_both t refl)
counts_told (exactly f) size header free n t e same = next_equal (field header 7 0) f ∙ ap (λ (m : ℕ). eqb m (f + 1)) e
counts_told (by_bit b f g) size header free n t e same =
    next_equal (field header 7 0) (cond (bit header b) g f)
    ∙ ap (λ (m : ℕ). eqb m (cond (bit header b) g f + 1)) e
    ∙ ap (λ (c : Bool). eqb n (cond c g f + 1)) (same b f g refl)
counts_told (groups most) size header free n t e same =
    ap (λ (m : ℕ). eqb (m % size) 0 && (leb 1 (m / size) && leb (m / size) most)) e

-- the most dwords that a row may have after its header
abbrev most_of : Length → ℕ → ℕ
most_of no_field size = 0
most_of (exactly f) size = f + 1
most_of (by_bit b f g) size = f + g + 1
most_of (groups most) size = most * size

at_most : (l : Length) (size free n : ℕ) → count_right l size free n ≡ true → n ≤ most_of l size
at_most no_field size free n e = let q = eqb-true n 0 e in omega arith
at_most (exactly f) size free n e = let q = eqb-true n (f + 1) e in omega arith
at_most (by_bit b f g) size free n e = by (bit free b) (eqb-true n (cond (bit free b) g f + 1) e)
  where
    by : (t : Bool) → n ≡ cond t g f + 1 → n ≤ f + g + 1
    by true q = omega arith
    by false q = omega arith
at_most (groups most) size free n e =
    let none = eqb-true (n % size) 0 (and_left (eqb (n % size) 0) _ e) in
    let few = leb-true (n / size) most (and_right (leb 1 (n / size)) _ (and_right (eqb (n % size) 0) _ e)) in
    omega (arith, div-add-mod' n size, mul-le-mul_right size few)

most_tested : each (λ r. leb (most_of (the_row r).total (group_size r)) 132) row_count ≡ true
unfolding each rows the_row group_size
most_tested = refl

-- no row has more than 132
pub counts_small : (r free n : ℕ) → r < row_count → count_right (the_row r).total (group_size r) free n ≡ true → n ≤ 132
counts_small r free n h e =
    let m : most_of (the_row r).total (group_size r) ≤ 132 = leb-true _ 132 (at_each (λ r. leb (most_of (the_row r).total (group_size r)) 132) row_count most_tested r h) in
    omega (arith, at_most (the_row r).total (group_size r) free n e)

-- the field that is written is one that the header has room for, and the header then tells as many dwords
pub field_fits : (l : Length) (n : ℕ) → n ≤ 132 → field_for l n ≤ field_bits l
field_fits no_field n h = omega arith
field_fits (exactly f) n h = omega arith
field_fits (by_bit b f g) n h = omega arith
field_fits (groups most) n h = omega arith

some_dwords : (l : Length) (size free n : ℕ) → fielded l ≡ true → count_right l size free n ≡ true → 1 ≤ n
some_dwords no_field size free n t e = absurd (never_both t refl)
some_dwords (exactly f) size free n t e = let q = eqb-true n (f + 1) e in omega arith
some_dwords (by_bit b f g) size free n t e = let q = eqb-true n (cond (bit free b) g f + 1) e in omega arith
some_dwords (groups most) size free n t e =
    let some = leb-true 1 (n / size) (and_left (leb 1 (n / size)) _ (and_right (eqb (n % size) 0) _ e)) in
    omega (arith, div-le_self n size)

pub tells_as_many : (l : Length) (size free n header : ℕ) → count_right l size free n ≡ true → (fielded l ≡ true → field header 7 0 ≡ field_for l n)
    → dword_count l header ≡ 1 + n
tells_as_many no_field size free n header e t = let q = eqb-true n 0 e in omega arith
tells_as_many (exactly f) size free n header e t = let s = some_dwords (exactly f) size free n refl e in let q = t refl in omega arith
tells_as_many (by_bit b f g) size free n header e t = let s = some_dwords (by_bit b f g) size free n refl e in let q = t refl in omega arith
tells_as_many (groups most) size free n header e t = let s = some_dwords (groups most) size free n refl e in let q = t refl in omega arith

abbrev switching : Length → Bool
switching no_field = false
switching (exactly f) = false
switching (by_bit b f g) = true
switching (groups most) = false

-- the bit that decides between two lengths is the one free bit of its row, bit 21
abbrev switched : Length → ℕ → Bool
switched no_field free = true
switched (exactly f) free = true
switched (by_bit b f g) free = eqb b 21 && eqb free (2 ^ 21)
switched (groups most) free = true

switches_tested : each (λ r. switched (the_row r).total (the_row r).free) row_count ≡ true
unfolding each rows the_row
switches_tested = refl

pub switch_is : (r : ℕ) → r < row_count → (b f g : ℕ) → (the_row r).total ≡ by_bit b f g → b ≡ 21
switch_is r h b f g q =
    let t = sym (ap (λ (l : Length). switched l (the_row r).free) q)
    ∙ at_each (λ r. switched (the_row r).total (the_row r).free) row_count switches_tested r h in
    eqb-true b 21 (and_left (eqb b 21) _ t)

-- so a header and its free bits agree in it
pub switch_agrees : (r : ℕ) → r < row_count → (header free : ℕ) → bit_and header (the_row r).free ≡ free
    → (b f g : ℕ) → (the_row r).total ≡ by_bit b f g → bit header b ≡ bit free b
switch_agrees r h header free e b f g q =
    let t = sym (ap (λ (l : Length). switched l (the_row r).free) q)
    ∙ at_each (λ r. switched (the_row r).total (the_row r).free) row_count switches_tested r h in
    let mask = eqb-true (the_row r).free (2 ^ 21) (and_right (eqb b 21) _ t) in
    let told : (header / 2 ^ 21 % 2) * 2 ^ 21 ≡ free = sym (and_high header 1 21) ∙ ap (bit_and header) (sym mask) ∙ e in
    let same : header / 2 ^ 21 % 2 ≡ free / 2 ^ 21 % 2 = omega arith in
    rw (switch_is r h b f g q) (ap (λ (n : ℕ). eqb n 1) same)

-- no length is wrong where there is no field; and where there is one, it tells one dword less than there are
no_field_right : (l : Length) (size header : ℕ) → fielded l ≡ false → field_right l size header ≡ true
no_field_right no_field size header t = refl
no_field_right (exactly f) size header t = absurd (never_both refl t)
no_field_right (by_bit b f g) size header t = absurd (never_both refl t)
no_field_right (groups most) size header t = absurd (never_both refl t)

field_and_one : (l : Length) (size free n : ℕ) → fielded l ≡ true → count_right l size free n ≡ true → field_for l n + 1 ≡ n
field_and_one no_field size free n t e = absurd (never_both t refl)
field_and_one (exactly f) size free n t e = let s = some_dwords (exactly f) size free n t e in omega arith
field_and_one (by_bit b f g) size free n t e = let s = some_dwords (by_bit b f g) size free n t e in omega arith
field_and_one (groups most) size free n t e = let s = some_dwords (groups most) size free n t e in omega arith

-- a search finds nothing where no test does
none_of_some : (bad : ℕ → Bool) (k n : ℕ) → some_from bad k n ≡ false → first_from bad k n ≡ None
unfolding some_from first_from
none_of_some bad k zero e = refl
none_of_some bad k (suc n) e = rw (some_left (bad k) _ e) (none_of_some bad (k + 1) n (some_right (bad k) _ e))

some_of_none : (bad : ℕ → Bool) (k n : ℕ) → first_from bad k n ≡ None → some_from bad k n ≡ false
unfolding some_from
some_of_none bad k zero e = refl
some_of_none bad k (suc n) e =
    let first = none_found bad k (suc n) e k (omega arith) (omega arith) in
    rw first (some_of_none bad (k + 1) n (sym (search_passes bad k n first) ∙ e))

-- one field, or one of groups, is none that a bit decides
never_switched : {l : Length} {b f g : ℕ} → switching l ≡ false → l ≡ by_bit b f g → ⊥
never_switched e q = never_both (ap switching q) e

-- what a mask keeps it keeps again
below_2 : (n : ℕ) → n % 2 < 2
below_2 n = mod-lt n (lit< tt)

under_again : (x mask : ℕ) → bit_and (bit_and x mask) mask ≡ bit_and x mask
under_again x =
    bin_ind (λ (n : ℕ). (mask : ℕ) → bit_and (bit_and n mask) mask ≡ bit_and n mask) (λ mask. and_zero_l mask)
    (λ n again mask.
    let y = bit_and n mask in
    let a = bit_and (n / 2) (mask / 2) in
    let c = min (n % 2) (mask % 2) in
    let e : y ≡ a * 2 + c = and_step n mask in
    let few : c ≤ n % 2 = min-le_left (n % 2) (mask % 2) in
    let high : y / 2 ≡ a = omega (arith, below_2 n) in
    let odd : y % 2 ≡ c = omega (arith, below_2 n) in
    and_step y mask
    ∙ ap (λ (m : ℕ). bit_and m (mask / 2) * 2 + min (y % 2) (mask % 2)) high
    ∙ ap (λ (m : ℕ). m * 2 + min (y % 2) (mask % 2)) (again (mask / 2))
    ∙ ap (λ (m : ℕ). a * 2 + min m (mask % 2)) odd
    ∙ ap (λ (m : ℕ). a * 2 + m) (min-eq_left (min-le_right (n % 2) (mask % 2)))
    ∙ sym e) x

-- the header that is made of a row, free bits that it has and a count that it has
module _ (r free n : ℕ) (known : r < row_count) (count : count_right (the_row r).total (group_size r) free n ≡ true)
    (kept : allowed free (the_row r).free ≡ true) where
  pub made : Header r (free + field_for (the_row r).total n) free (field_for (the_row r).total n)
  made =
      of_parts r known
      (put_together r known free (field_for (the_row r).total n) kept (field_fits (the_row r).total n (counts_small r free n known count)))

  pub made_small : header_for r free n < 2 ^ 32
  unfolding header_for
  made_small = made.small

-- its field is one less than the count, or 0
pub field_of_count : (l : Length) (size free n : ℕ) → count_right l size free n ≡ true → field_for l n ≡ n - 1
field_of_count no_field size free n e = let q = eqb-true n 0 e in omega arith
field_of_count (exactly f) size free n e = refl
field_of_count (by_bit b f g) size free n e = refl
field_of_count (groups most) size free n e = refl

-- no dwords after the header: a row without a field, and no other
pub none_counted : (l : Length) (size free : ℕ) → eqb (dword_count l 0) 1 ≡ count_right l size free 0
none_counted no_field size free = refl
none_counted (exactly f) size free = sym (ne_eqb 0 (f + 1) (λ q. omega arith))
none_counted (by_bit b f g) size free = sym (ne_eqb 0 (cond (bit free b) g f + 1) (λ q. omega arith))
none_counted (groups most) size free = sym (rw (zero-div size, and-false (eqb (0 % size) 0)))

pub bare_counted : (l : Length) (size free n : ℕ) → dword_count l 0 ≡ 1 → 1 ≤ n → count_right l size free n ≡ false
bare_counted no_field size free n e h = ne_eqb n 0 (λ q. omega arith)
bare_counted (exactly f) size free n e h = absurd (omega arith)
bare_counted (by_bit b f g) size free n e h = absurd (omega arith)
bare_counted (groups most) size free n e h = absurd (omega arith)

-- too many for any row
pub many_counted : (r free n : ℕ) → r < row_count → 132 < n → count_right (the_row r).total (group_size r) free n ≡ false
many_counted r free n h m =
    ⊎_elim (λ e. absurd (omega (arith, counts_small r free n h e))) (λ e. e) (either (count_right (the_row r).total (group_size r) free n))

-- and else as the length field of any header tells that has as many, and the bit that decides
pub field_counted : (r free n header : ℕ) → r < row_count → (dword_count (the_row r).total 0 ≡ 1 → ⊥) → field header 7 0 + 1 ≡ n
    → header / 2 ^ 21 % 2 ≡ free / 2 ^ 21 % 2 → length_right r header ≡ count_right (the_row r).total (group_size r) free n
unfolding length_right
field_counted r free n header h some e same =
    counts_told (the_row r).total (group_size r) header free n (has_field (the_row r).total some) e
    (λ b f g q. rw (switch_is r h b f g q) (ap (λ (m : ℕ). eqb m 1) same))
  where
    has_field : (l : Length) → (dword_count l 0 ≡ 1 → ⊥) → fielded l ≡ true
    has_field no_field n = absurd (n refl)
    has_field (exactly f) n = refl
    has_field (by_bit b f g) n = refl
    has_field (groups most) n = refl

-- what is written

module _ (d : Draft) (pass : write_verdict d ≡ Ok tt) where
  passed : AllPass write_checks d
  passed = all_pass d write_checks pass

  pub row_known : d.row < row_count
  unfolding write_checks row_unknown
  row_known = leb-false row_count d.row (refuse_passes _ _ passed.0)

  pub count_known : count_right (the_row d.row).total (group_size d.row) d.free (length d.dwords) ≡ true
  unfolding write_checks count_wrong
  count_known = not-false _ (refuse_passes _ _ passed.1.0)

  stray_none : (not (allowed d.free (the_row d.row).free) || some_from (bit_wrong d.row (command_for d)) 1 (length d.dwords)) ≡ false
  unfolding write_checks bit_stray
  stray_none = refuse_passes _ _ passed.1.1.0

  pub free_kept : allowed d.free (the_row d.row).free ≡ true
  free_kept = not-false _ (some_left (not (allowed d.free (the_row d.row).free)) _ stray_none)

  dwords_kept_lem : some_from (bit_wrong d.row (command_for d)) 1 (length d.dwords) ≡ false
  dwords_kept_lem = some_right (not (allowed d.free (the_row d.row).free)) _ stray_none

  pub has_room : d.first + (1 + length d.dwords) ≤ d.room
  unfolding write_checks room_short
  has_room = ltb-false d.room _ (refuse_passes _ _ passed.1.1.1.0)

  -- the header that is written, taken apart
  abbrev told : ℕ
  told = field_for (the_row d.row).total (length d.dwords)

  own : Header d.row (d.free + told) d.free told
  own = made d.row d.free (length d.dwords) row_known count_known free_kept

  abbrev pub header : ℕ
  header = header_for d.row d.free (length d.dwords)

  pub header_row : row_of header ≡ d.row
  unfolding header_for
  header_row = own.row

  pub header_free : bit_and header (the_row d.row).free ≡ d.free
  unfolding header_for
  header_free = own.under

  pub header_long : length_of d.row header ≡ 1 + length d.dwords
  unfolding header_for length_of
  header_long = tells_as_many (the_row d.row).total (group_size d.row) d.free _ _ count_known own.told

  pub header_right : length_right d.row header ≡ true
  unfolding header_for length_right
  header_right = by (fielded (the_row d.row).total) refl
    where
      by : (t : Bool) → fielded (the_row d.row).total ≡ t → field_right (the_row d.row).total (group_size d.row) header ≡ true
      by false t = no_field_right (the_row d.row).total (group_size d.row) _ t
      by true t =
          counts_told (the_row d.row).total (group_size d.row) _ d.free (length d.dwords) t
          (ap (λ (f : ℕ). f + 1) (own.told t) ∙ field_and_one (the_row d.row).total (group_size d.row) d.free _ t count_known)
          (switch_agrees d.row row_known _ d.free own.under)
          ∙ count_known

  pub all_kept : first_of (bit_wrong d.row (command_for d)) (1 + length d.dwords) ≡ None
  unfolding command_for header_for
  all_kept =
      let e : 1 + length d.dwords ≡ suc (length d.dwords) = omega arith in
      ap (first_from (bit_wrong d.row (command_for d)) 0) e
      ∙ search_passes (bit_wrong d.row (command_for d)) 0 (length d.dwords) (header_bits d.row _ ∙ ap not own.kept)
      ∙ none_of_some (bit_wrong d.row (command_for d)) 1 (length d.dwords) dwords_kept_lem

-- a command that passes 7, 8 and 10, of a header and the dwords after it, as many as the header says
module _ (header : ℕ) (dwords : List ℕ) (small : header < 2 ^ 32) (r : ℕ) (known : r < row_count) (row_is : row_of header ≡ r)
    (right : length_right r header ≡ true) (long : 1 + length dwords ≡ length_of r header)
    (kept : first_of (bit_wrong r (header ∷ dwords)) (1 + length dwords) ≡ None) where
  bits_kept_lem : (i : ℕ) → i < 1 + length dwords → bit_wrong r (header ∷ dwords) i ≡ false
  bits_kept_lem i h = none_found (bit_wrong r (header ∷ dwords)) 0 (1 + length dwords) kept i (omega arith) (omega arith)

  header_kept : allowed header (header_mask (the_row r)) ≡ true
  header_kept = not-false _ (sym (header_bits r (header ∷ dwords)) ∙ bits_kept_lem 0 (omega arith))

  -- its free bits
  abbrev pub freed : ℕ
  freed = bit_and header (the_row r).free

  apart : Apart r header
  apart = header_apart header small r known row_is header_kept

  parts : Parts r apart.x (bit_and apart.x (the_row r).free) (cond (fielded (the_row r).total) (apart.x % 2 ^ 8) 0)
  parts = taken_apart r known apart.x apart.kept

  whole : Header r apart.x (bit_and apart.x (the_row r).free) (cond (fielded (the_row r).total) (apart.x % 2 ^ 8) 0)
  whole = of_parts r known parts

  freed_is : bit_and apart.x (the_row r).free ≡ freed
  freed_is = sym whole.under ∙ ap (λ (n : ℕ). bit_and n (the_row r).free) (sym apart.sum)

  freed_kept : allowed freed (the_row r).free ≡ true
  unfolding allowed
  freed_kept = eq-eqb _ _ (under_again header (the_row r).free)

  field_is : fielded (the_row r).total ≡ true → field header 7 0 ≡ apart.x % 2 ^ 8
  field_is t =
      ap (λ (n : ℕ). field n 7 0) apart.sum ∙ whole.told t ∙ ap (λ (b : Bool). cond b (apart.x % 2 ^ 8) 0) t

  -- the field that the writer makes of the number of dwords is the header's own
  own_field : (l : Length) → (the_row r).total ≡ l → dword_count l header ≡ 1 + length dwords
      → cond (fielded l) (apart.x % 2 ^ 8) 0 ≡ field_for l (length dwords)
  own_field no_field e q = refl
  own_field (exactly f) e q = let t = field_is (ap fielded e) in omega arith
  own_field (by_bit b f g) e q = let t = field_is (ap fielded e) in omega arith
  own_field (groups most) e q = let t = field_is (ap fielded e) in omega arith

  pub written_header : header_for r freed (length dwords) ≡ header
  unfolding header_for length_of
  written_header =
      let f = own_field (the_row r).total refl (sym long) in
      ap (λ (n : ℕ). (the_row r).key + n)
      (ap (λ (n : ℕ). n + field_for (the_row r).total (length dwords)) (sym freed_is)
      ∙ ap (λ (n : ℕ). bit_and apart.x (the_row r).free + n) (sym f)
      ∙ sym parts.sum)
      ∙ sym apart.sum

  pub written_count : count_right (the_row r).total (group_size r) freed (length dwords) ≡ true
  unfolding length_of length_right
  written_count = by (the_row r).total refl right (sym long)
    where
      by : (l : Length) → (the_row r).total ≡ l → field_right l (group_size r) header ≡ true → dword_count l header ≡ 1 + length dwords
          → count_right l (group_size r) freed (length dwords) ≡ true
      by no_field e right q = eq-eqb (length dwords) 0 (omega arith)
      by (exactly f) e right q = sym (counts_told (exactly f) (group_size r) header freed (length dwords) refl (omega arith) (λ b f g z. absurd (never_switched refl z))) ∙ right
      by (by_bit b f g) e right q =
          sym (counts_told (by_bit b f g) (group_size r) header freed (length dwords) refl (omega arith) (λ b f g z. switch_agrees r known header freed refl b f g (e ∙ z)))
          ∙ right
      by (groups most) e right q = sym (counts_told (groups most) (group_size r) header freed (length dwords) refl (omega arith) (λ b f g z. absurd (never_switched refl z))) ∙ right

  pub written_back : (room first : ℕ) → first + (1 + length dwords) ≤ room → write_verdict (draft r freed dwords room first) ≡ Ok tt
  unfolding write_checks row_unknown count_wrong bit_stray room_short command_for
  written_back room first fits =
      no_fault (draft r freed dwords room first) write_checks
      (rw (lt-leb row_count r known), (rw written_count, (rw (freed_kept, written_header, some_of_none _ 1 (length dwords) later), (rw (le-ltb room _ fits), tt))))
    where
      later : first_from (bit_wrong r (header ∷ dwords)) 1 (length dwords) ≡ None
      later = finds_none (bit_wrong r (header ∷ dwords)) 1 (length dwords) (λ i from below. bits_kept_lem i (omega arith))

-- one answer only
pub one_write : {row free : ℕ} {dwords : List ℕ} {first : ℕ} {old : List ℕ} {a b : Answer} {new other : List ℕ}
    → Written row free dwords first old a new → Written row free dwords first old b other → (a ≡ b) × (new ≡ other)
one_write p q = (p.answers ∙ sym q.answers, p.words ∙ sym q.words)
