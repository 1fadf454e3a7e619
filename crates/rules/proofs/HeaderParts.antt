-- A header is made of the bits that its row is known by, its free bits and its length field, and can be taken apart into them again: laws over every row.
-- Assumes nothing.
use Prim.Native.Nat.{ℕ, suc, ◌+◌, ◌*◌, ◌/◌, ◌%◌, ◌^◌, ◌≤◌, ◌<◌}
use native.Mathlib.Nat.{mod-eq_of_lt, mod-lt, div-add-mod'}
use native.Mathlib.Omega.{arith}
use mathlib.Core.Path.{◌≡◌, refl, sym, ap, ◌∙◌}
use mathlib.Core.Bool.{Bool, true, false, cond, not, ◌&&◌, ◌||◌}
use mathlib.Core.List.{List, [], ◌∷◌}
use lib.Bits.{bit_and, and_block, and_mask, and_mod, and_self, and_zero_r, and_le_r}
use lib.ListN.{length, get_or}
use lib.Dec.{ltb, eqb, lit<}
use borrow.Author.Tests.{eqb-true, eqb-false, eq-eqb, ltb-true, ltb-false}
use Rattle.rules.specs.Words.{field, cleared, allowed}
use Rattle.rules.specs.Commands.{Length, no_field, exactly, by_bit, groups, Row, row_count, rows, rows_counted, the_row, key_of, row_from, row_of}
use Rattle.rules.specs.Masks.{field_bits, header_mask}
use Rattle.rules.proofs.Searching.{never_both, and_left, and_right}
use Rattle.rules.proofs.Tables.{each, at_each}
use Rattle.rules.proofs.Keys.{key_0, of_type_3}

-- what is allowed is as it is under the mask
kept_is : (x mask : ℕ) → allowed x mask ≡ true → bit_and x mask ≡ x
unfolding allowed
kept_is x mask e = eqb-true _ _ e

is_kept : (x mask : ℕ) → bit_and x mask ≡ x → allowed x mask ≡ true
unfolding allowed
is_kept x mask e = eq-eqb _ _ e

-- the low bits of a header, free bits and a field: `free` is a mask whose lowest eight bits are clear
module _ (free : ℕ) (clear : free % 2 ^ 8 ≡ 0) where
  whole : free ≡ free / 2 ^ 8 * 2 ^ 8 + 0
  whole = omega (arith, div-add-mod' free (2 ^ 8))

  field_under : (h f : ℕ) → f < 2 ^ 8 → bit_and (h * 2 ^ 8 + f) free ≡ bit_and h (free / 2 ^ 8) * 2 ^ 8
  field_under h f l =
      ap (bit_and (h * 2 ^ 8 + f)) whole
      ∙ and_block 8 h (free / 2 ^ 8) f 0 l (lit< tt)
      ∙ ap (λ (x : ℕ). bit_and h (free / 2 ^ 8) * 2 ^ 8 + x) (and_zero_r f)
      ∙ omega arith

  field_with : (h f : ℕ) → f < 2 ^ 8 → bit_and (h * 2 ^ 8 + f) (free + 255) ≡ bit_and h (free / 2 ^ 8) * 2 ^ 8 + f
  field_with h f l =
      ap (bit_and (h * 2 ^ 8 + f)) (ap (λ (x : ℕ). x + 255) whole ∙ omega arith)
      ∙ and_block 8 h (free / 2 ^ 8) f 255 l (lit< tt)
      ∙ ap (λ (x : ℕ). bit_and h (free / 2 ^ 8) * 2 ^ 8 + x) (and_mask f 8 ∙ mod-eq_of_lt l)

  module _ (given : ℕ) (k : bit_and given free ≡ given) where
    given_clear : given % 2 ^ 8 ≡ 0
    given_clear =
        ap (λ (x : ℕ). x % 2 ^ 8) (sym k)
        ∙ and_mod given free 8
        ∙ ap (bit_and (given % 2 ^ 8)) clear
        ∙ and_zero_r (given % 2 ^ 8)

    given_whole : given / 2 ^ 8 * 2 ^ 8 ≡ given
    given_whole = omega (arith, div-add-mod' given (2 ^ 8), given_clear)

    given_under : bit_and (given / 2 ^ 8) (free / 2 ^ 8) * 2 ^ 8 ≡ given
    given_under =
        let e : given / 2 ^ 8 * 2 ^ 8 + 0 ≡ given = omega (arith, given_whole) in
        sym (field_under (given / 2 ^ 8) 0 (lit< tt)) ∙ ap (λ (x : ℕ). bit_and x free) e ∙ k

    -- free bits and a field, put together
    pub together_free : (f : ℕ) → f < 2 ^ 8 → bit_and (given + f) free ≡ given
    together_free f l =
        ap (λ (x : ℕ). bit_and (x + f) free) (sym given_whole) ∙ field_under (given / 2 ^ 8) f l ∙ given_under

    pub together_kept : (f : ℕ) → f < 2 ^ 8 → bit_and (given + f) (free + 255) ≡ given + f
    together_kept f l =
        ap (λ (x : ℕ). bit_and (x + f) (free + 255)) (sym given_whole)
        ∙ field_with (given / 2 ^ 8) f l
        ∙ ap (λ (x : ℕ). x + f) given_under

    pub together_field : (f : ℕ) → f < 2 ^ 8 → (given + f) % 2 ^ 8 ≡ f
    together_field f l = omega (arith, given_clear)

  -- and taken apart
  pub apart : (x : ℕ) → bit_and x (free + 255) ≡ x → bit_and x free + x % 2 ^ 8 ≡ x
  apart x k =
      let l : x % 2 ^ 8 < 2 ^ 8 = mod-lt x (lit< tt) in
      let s = div-add-mod' x (2 ^ 8) in
      let a = sym (ap (λ (y : ℕ). bit_and y free) s) ∙ field_under (x / 2 ^ 8) (x % 2 ^ 8) l in
      let b = sym (field_with (x / 2 ^ 8) (x % 2 ^ 8) l) ∙ ap (λ (y : ℕ). bit_and y (free + 255)) s ∙ k in
      omega (arith, a, b)

-- a part above the low w bits, which both have
module _ (w high x mask : ℕ) (small : x < 2 ^ w) (narrow : mask < 2 ^ w) where
  pub above_free : bit_and (high * 2 ^ w + x) mask ≡ bit_and x mask
  above_free =
      ap (bit_and (high * 2 ^ w + x)) (omega arith)
      ∙ and_block w high 0 x mask small narrow
      ∙ ap (λ (y : ℕ). y * 2 ^ w + bit_and x mask) (and_zero_r high)
      ∙ omega arith

  pub above_kept : bit_and (high * 2 ^ w + x) (high * 2 ^ w + mask) ≡ high * 2 ^ w + bit_and x mask
  above_kept = and_block w high high x mask small narrow ∙ ap (λ (y : ℕ). y * 2 ^ w + bit_and x mask) (and_self high)

-- whether a row has a length field
abbrev pub fielded : Length → Bool
fielded no_field = false
fielded (exactly f) = true
fielded (by_bit b f g) = true
fielded (groups n) = true

field_bits_lem : (l : Length) → field_bits l ≡ cond (fielded l) 255 0
field_bits_lem no_field = refl
field_bits_lem (exactly f) = refl
field_bits_lem (by_bit b f g) = refl
field_bits_lem (groups n) = refl

-- what holds of each row, tested over the table: its key is its own; bits 22:0 of a key of type 0 are clear, and 15:0 of one of another type; free bits
-- and field lie in these, and apart
abbrev low : Row → ℕ
low r = r.free + field_bits r.total

abbrev in_bits : Row → ℕ → Bool
in_bits r w = eqb (r.key % 2 ^ w) 0 && ltb (low r) (2 ^ w)

abbrev shaped : ℕ → Bool
shaped r =
    eqb (row_from (the_row r).key rows) r
    && (cond (ltb (the_row r).key (2 ^ 29)) (in_bits (the_row r) 23) (in_bits (the_row r) 16 && ltb (the_row r).key (2 ^ 32))
    && (not (fielded (the_row r).total) || eqb ((the_row r).free % 2 ^ 8) 0))

shapes_tested : each shaped row_count ≡ true
unfolding each rows the_row row_from
shapes_tested = refl

-- the low bits of a header in a row: x is a value of them that the row allows, of which the part under the free bits and the field are told
pub record Parts (r x free f : ℕ) : Type 0 where
  pub sum : x ≡ free + f
  pub under : bit_and x (the_row r).free ≡ free
  pub kept : bit_and x (low (the_row r)) ≡ x
  pub told : fielded (the_row r).total ≡ true → x % 2 ^ 8 ≡ f

-- a key that is found in a row is that row's
pub from_row : (key : ℕ) (rs : List Row) (i : ℕ) (none : Row) → row_from key rs ≡ i → i < length rs → key ≡ (get_or rs i none).key
unfolding row_from
from_row key [] i none e h = absurd (omega arith)
from_row key (r ∷ rs) i none e h = by (eqb key r.key) refl e (λ l. from_row key rs (row_from key rs) none refl l)
  where
    by : (b : Bool) → eqb key r.key ≡ b → cond b 0 (suc (row_from key rs)) ≡ i
        → (row_from key rs < length rs → key ≡ (get_or rs (row_from key rs) none).key)
        → key ≡ (get_or (r ∷ rs) i none).key
    by true t e later = eqb-true _ _ t ∙ ap (λ (j : ℕ). (get_or (r ∷ rs) j none).key) e
    by false t e later = later (omega arith) ∙ ap (λ (j : ℕ). (get_or (r ∷ rs) j none).key) e

module _ (r : ℕ) (h : r < row_count) where
  shape : shaped r ≡ true
  shape = at_each shaped row_count shapes_tested r h

  own : row_from (the_row r).key rows ≡ r
  own = eqb-true _ _ (and_left (eqb (row_from (the_row r).key rows) r) _ shape)

  clear : fielded (the_row r).total ≡ true → (the_row r).free % 2 ^ 8 ≡ 0
  clear e =
      let t = and_right (cond (ltb (the_row r).key (2 ^ 29)) (in_bits (the_row r) 23) (in_bits (the_row r) 16 && ltb (the_row r).key (2 ^ 32))) _
      (and_right (eqb (row_from (the_row r).key rows) r) _ shape) in
      eqb-true _ _ (sym (ap (λ (b : Bool). not b || eqb ((the_row r).free % 2 ^ 8) 0) e) ∙ t)

  -- a key of type 0, or of another
  pub data Typed : Type 0 where
    type_0_lem : (the_row r).key < 2 ^ 29 → (the_row r).key % 2 ^ 23 ≡ 0 → low (the_row r) < 2 ^ 23 → Typed
    type_3_lem : 2 ^ 29 ≤ (the_row r).key → (the_row r).key < 2 ^ 32 → (the_row r).key % 2 ^ 16 ≡ 0 → low (the_row r) < 2 ^ 16 → Typed

  typed : Typed
  typed =
      by (ltb (the_row r).key (2 ^ 29)) refl
      (and_left (cond (ltb (the_row r).key (2 ^ 29)) (in_bits (the_row r) 23) (in_bits (the_row r) 16 && ltb (the_row r).key (2 ^ 32))) _
      (and_right (eqb (row_from (the_row r).key rows) r) _ shape))
    where
      by : (t : Bool) → ltb (the_row r).key (2 ^ 29) ≡ t
          → cond t (in_bits (the_row r) 23) (in_bits (the_row r) 16 && ltb (the_row r).key (2 ^ 32)) ≡ true → Typed
      by true q e =
          type_0_lem (ltb-true _ _ q) (eqb-true _ _ (and_left (eqb ((the_row r).key % 2 ^ 23) 0) _ e))
          (ltb-true _ _ (and_right (eqb ((the_row r).key % 2 ^ 23) 0) _ e))
      by false q e =
          let in-bits = and_left (in_bits (the_row r) 16) _ e in
          type_3_lem (ltb-false _ _ q) (ltb-true _ _ (and_right (in_bits (the_row r) 16) _ e))
          (eqb-true _ _ (and_left (eqb ((the_row r).key % 2 ^ 16) 0) _ in-bits)) (ltb-true _ _ (and_right (eqb ((the_row r).key % 2 ^ 16) 0) _ in-bits))

  with_field : fielded (the_row r).total ≡ true → low (the_row r) ≡ (the_row r).free + 255
  with_field e = ap (λ (n : ℕ). (the_row r).free + n) (field_bits_lem (the_row r).total ∙ ap (λ (b : Bool). cond b 255 0) e)

  without_field : fielded (the_row r).total ≡ false → low (the_row r) ≡ (the_row r).free
  without_field e = ap (λ (n : ℕ). (the_row r).free + n) (field_bits_lem (the_row r).total ∙ ap (λ (b : Bool). cond b 255 0) e) ∙ omega arith

  -- free bits and a field that the row may have, put together
  pub put_together : (free f : ℕ) → allowed free (the_row r).free ≡ true → f ≤ field_bits (the_row r).total → Parts r (free + f) free f
  put_together free f k l = by (fielded (the_row r).total) refl
    where
      by : (t : Bool) → fielded (the_row r).total ≡ t → Parts r (free + f) free f
      by true e =
          let g = kept_is free _ k in
          let s : f < 2 ^ 8 = omega (arith, with_field e) in
          record {
            sum = refl;
            under = together_free _ (clear e) free g f s;
            kept = rw (with_field e) (together_kept _ (clear e) free g f s);
            told = λ t. together_field _ (clear e) free g f s;
          }
      by false e =
          let z : free + f ≡ free = omega (arith, without_field e) in
          record {
            sum = refl;
            under = rw z (kept_is free _ k);
            kept = rw (z, without_field e) (kept_is free _ k);
            told = λ t. absurd (never_both t e);
          }

  -- and low bits that the row allows, taken apart
  pub taken_apart : (x : ℕ) → bit_and x (low (the_row r)) ≡ x → Parts r x (bit_and x (the_row r).free) (cond (fielded (the_row r).total) (x % 2 ^ 8) 0)
  taken_apart x k = by (fielded (the_row r).total) refl
    where
      by : (t : Bool) → fielded (the_row r).total ≡ t → Parts r x (bit_and x (the_row r).free) (cond (fielded (the_row r).total) (x % 2 ^ 8) 0)
      by true e = rw e
          record {
            sum = sym (apart _ (clear e) x (ap (bit_and x) (sym (with_field e)) ∙ k));
            under = refl;
            kept = k;
            told = λ t. refl;
          }
      by false e =
          let z : bit_and x (the_row r).free ≡ x = ap (bit_and x) (sym (without_field e)) ∙ k in
          rw e record { sum = sym z ∙ omega arith; under = refl; kept = k; told = λ t. absurd (never_both t e) }

-- the header with these low bits: it is in the row, under the free bits it has theirs, in its field the field, and the row allows it
pub record Header (r x free f : ℕ) : Type 0 where
  pub row : row_of ((the_row r).key + x) ≡ r
  pub under : bit_and ((the_row r).key + x) (the_row r).free ≡ free
  pub kept : allowed ((the_row r).key + x) (header_mask (the_row r)) ≡ true
  pub told : fielded (the_row r).total ≡ true → field ((the_row r).key + x) 7 0 ≡ f
  pub small : (the_row r).key + x < 2 ^ 32

module _ (r : ℕ) (h : r < row_count) {x free f : ℕ} (p : Parts r x free f) where
  below_low : x ≤ low (the_row r)
  below_low = rw p.kept at (and_le_r x (low (the_row r)))

  module _ (w high : ℕ) (key_is : (the_row r).key ≡ high * 2 ^ w) (narrow : low (the_row r) < 2 ^ w) where
    x_small : x < 2 ^ w
    x_small = omega (arith, below_low)

    free_small : (the_row r).free < 2 ^ w
    free_small = omega arith

    under_key : bit_and ((the_row r).key + x) (the_row r).free ≡ free
    under_key = ap (λ (k : ℕ). bit_and (k + x) (the_row r).free) key_is ∙ above_free w high x _ x_small free_small ∙ p.under

    kept_key : allowed ((the_row r).key + x) (header_mask (the_row r)) ≡ true
    kept_key =
        is_kept _ _
        (ap (λ (k : ℕ). bit_and (k + x) (k + low (the_row r))) key_is
        ∙ above_kept w high x _ x_small narrow
        ∙ ap (λ (y : ℕ). high * 2 ^ w + y) p.kept
        ∙ ap (λ (k : ℕ). k + x) (sym key_is))

  pub of_parts : Header r x free f
  of_parts = by (typed r h)
    where
      by : Typed r h → Header r x free f
      by (type_0_lem a b c) =
          let k = (the_row r).key / 2 ^ 23 in
          let e : (the_row r).key ≡ k * 2 ^ 23 = omega arith in
          let l = x_small 23 k e c in
          let q : ((the_row r).key + x) / 2 ^ 23 ≡ k = omega arith in
          record {
            row = sym (key_0 ((the_row r).key + x) k q (omega arith)) ∙ ap (λ (n : ℕ). row_from n rows) (sym e) ∙ own r h;
            under = under_key 23 k e c;
            kept = kept_key 23 k e c;
            told = λ t. let d = p.told t in omega arith;
            small = omega arith;
          }
      by (type_3_lem a u b c) =
          let k = (the_row r).key / 2 ^ 16 in
          let e : (the_row r).key ≡ k * 2 ^ 16 = omega arith in
          let l = x_small 16 k e c in
          let q : ((the_row r).key + x) / 2 ^ 16 * 2 ^ 16 ≡ (the_row r).key = omega arith in
          let s : (the_row r).key + x < 2 ^ 32 = omega arith in
          record {
            row = sym (of_type_3 ((the_row r).key + x) s (omega arith)) ∙ ap (λ (n : ℕ). row_from n rows) q ∙ own r h;
            under = under_key 16 k e c;
            kept = kept_key 16 k e c;
            told = λ t. let d = p.told t in omega arith;
            small = s;
          }

-- a header in a row that the row allows is its key with low bits that the row allows
pub record Apart (r header : ℕ) : Type 0 where
  pub x : ℕ
  pub sum : header ≡ (the_row r).key + x
  pub kept : bit_and x (low (the_row r)) ≡ x

module _ (header : ℕ) (small : header < 2 ^ 32) (r : ℕ) (h : r < row_count) (e : row_of header ≡ r)
    (k : allowed header (header_mask (the_row r)) ≡ true) where
  of_bits_lem : (w high : ℕ) → (the_row r).key ≡ high * 2 ^ w → low (the_row r) < 2 ^ w → (x : ℕ) → x < 2 ^ w → header ≡ high * 2 ^ w + x → Apart r header
  of_bits_lem w high key_is narrow x l q =
      record {
        x = x;
        sum = q ∙ ap (λ (n : ℕ). n + x) (sym key_is);
        kept =
            let b = sym (above_kept w high x (low (the_row r)) l narrow)
            ∙ ap (λ (n : ℕ). bit_and (high * 2 ^ w + x) (n + low (the_row r))) (sym key_is)
            ∙ ap (λ (n : ℕ). bit_and n (header_mask (the_row r))) (sym q) ∙ kept_is _ _ k ∙ q in
            omega (arith, b);
      }

  key_found : (the_row r).key ≡ key_of header
  unfolding the_row row_of
  key_found = sym (from_row (key_of header) rows r _ e (omega (arith, rows_counted)))

  pub header_apart : Apart r header
  unfolding key_of
  header_apart = by (eqb (field header 31 29) 0) refl key_found (typed r h)
    where
      by : (t : Bool) → eqb (field header 31 29) 0 ≡ t → (the_row r).key ≡ cond t (cleared header 23) (cleared header 16) → Typed r h → Apart r header
      by true q d (type_0_lem a b c) =
          of_bits_lem 23 (header / 2 ^ 23) d c (header % 2 ^ 23) (mod-lt header (lit< tt)) (sym (div-add-mod' header (2 ^ 23)))
      by true q d (type_3_lem a u b c) =
          let z : field header 31 29 ≡ 0 = eqb-true _ _ q in
          let few : header / 2 ^ 29 < 2 ^ 3 = omega (arith, small) in
          let none : header / 2 ^ 29 ≡ 0 = sym (mod-eq_of_lt few) ∙ z in
          let below : header < 2 ^ 29 = omega (arith, div-add-mod' header (2 ^ 29)) in
          absurd (omega (arith, div-add-mod' header (2 ^ 23)))
      by false q d (type_3_lem a u b c) =
          of_bits_lem 16 (header / 2 ^ 16) d c (header % 2 ^ 16) (mod-lt header (lit< tt)) (sym (div-add-mod' header (2 ^ 16)))
      by false q d (type_0_lem a b c) = absurd (eqb-false (field header 31 29) 0 q (omega arith))
