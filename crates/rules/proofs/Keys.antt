-- Which row a header is, by the numbers that a `match` on its high bits compares: bits 31:23 for type 0, and 31:16 for the others.
-- Assumes nothing.
use Prim.Native.Nat.{ℕ, ◌+◌, ◌*◌, ◌/◌, ◌^◌, ◌≤◌, ◌<◌}
use native.Mathlib.Nat.{mul-div_cancel}
use native.Mathlib.Omega.{arith}
use mathlib.Core.Path.{◌≡◌, refl, sym, ap, ◌∙◌}
use mathlib.Core.Bool.{Bool, true, false}
use mathlib.Core.List.{List, [], ◌∷◌, ◌++◌}
use lib.ListN.{length, take, drop}
use lib.Dec.{eqb, leb, ltb, lit<}
use borrow.Author.Tests.{eq-eqb, ne_eqb, leb-false, ltb-true, ltb-false}
use Rattle.rules.specs.Words.{field, some}
use Rattle.rules.specs.Commands.{Row, rows, the_row, topology_row, key_of, row_from, row_of, row_count}
use Rattle.rules.proofs.Searching.{some_left, some_right}

-- the shape of what a `match` over rows' keys, told in such units, leaves its last arm
abbrev pub Others : Type 0 → ℕ → List Row → ℕ → Type 0
Others before unit [] key = before
Others before unit (r ∷ rs) key = Others (before × (key ≡ r.key / unit → ⊥)) unit rs key

-- some row of a list has the key
abbrev keyed : ℕ → List Row → Bool
keyed key rs = some (λ r. eqb key r.key) rs

-- which none has, where the key is told in units and is none of theirs
others_unkeyed : (before : Type 0) (unit key : ℕ) (rs : List Row) → 0 < unit → Others before unit rs key
    → before × (keyed (key * unit) rs ≡ false)
unfolding some
others_unkeyed before unit key [] h o = (o, refl)
others_unkeyed before unit key (r ∷ rs) h o =
    let q = others_unkeyed (before × (key ≡ r.key / unit → ⊥)) unit key rs h o in
    let n = ne_eqb (key * unit) r.key (λ e. q.0.1 (sym (mul-div_cancel key h) ∙ ap (λ (k : ℕ). k / unit) e)) in
    (q.0.0, rw (n, q.1))

-- one that was asked for before the others, wherever it stands among them
others_after : (before since : Type 0) (unit key : ℕ) (rs : List Row) → (before → since) → Others before unit rs key
    → Others since unit rs key
others_after before since unit key [] f o = f o
others_after before since unit key (r ∷ rs) f o =
    others_after (before × (key ≡ r.key / unit → ⊥)) (since × (key ≡ r.key / unit → ⊥)) unit key rs (λ p. (f p.0, p.1)) o

others_with : (before : Type 0) (unit key : ℕ) (left : List Row) (r : Row) (right : List Row) → (key ≡ r.key / unit → ⊥)
    → Others before unit (left ++ right) key → Others before unit (left ++ r ∷ right) key
others_with before unit key [] r right n o = others_after before (before × (key ≡ r.key / unit → ⊥)) unit key right (λ p. (p, n)) o
others_with before unit key (x ∷ left) r right n o = others_with (before × (key ≡ x.key / unit → ⊥)) unit key left r right n o

-- where theirs all lie above it, and where they all lie below it
above_unkeyed : (key low : ℕ) (rs : List Row) → key < low → some (λ r. ltb r.key low) rs ≡ false → keyed key rs ≡ false
unfolding some
above_unkeyed key low [] h t = refl
above_unkeyed key low (r ∷ rs) h t =
    let l = ltb-false r.key low (some_left (ltb r.key low) _ t) in
    rw (ne_eqb key r.key (λ e. omega arith), above_unkeyed key low rs h (some_right (ltb r.key low) _ t))

below_unkeyed : (key low : ℕ) (rs : List Row) → low ≤ key → some (λ r. leb low r.key) rs ≡ false → keyed key rs ≡ false
unfolding some
below_unkeyed key low [] h t = refl
below_unkeyed key low (r ∷ rs) h t =
    let l = leb-false low r.key (some_left (leb low r.key) _ t) in
    rw (ne_eqb key r.key (λ e. omega arith), below_unkeyed key low rs h (some_right (leb low r.key) _ t))

-- a search for the key goes past them
passes : (key : ℕ) (rs more : List Row) → keyed key rs ≡ false → length rs + row_from key more ≡ row_from key (rs ++ more)
unfolding some row_from
passes key [] more e = omega arith
passes key (r ∷ rs) more e = rw (some_left (eqb key r.key) _ e) (omega (arith, passes key rs more (some_right (eqb key r.key) _ e)))

-- the keys of type 0 stand first, for multiples of 2^23 below 2^29; the others are multiples of 2^16 from 2^29 on
no_type_3 : (key : ℕ) → keyed key (drop 7 rows) ≡ false → row_count ≡ 7 + row_from key (drop 7 rows)
unfolding row_from rows
no_type_3 key e = ap (λ (n : ℕ). 7 + n) (passes key (drop 7 rows) [] e)

no_type_0 : (key : ℕ) → keyed key (take 7 rows) ≡ false → 7 + row_from key (drop 7 rows) ≡ row_from key rows
unfolding rows
no_type_0 key e = passes key (take 7 rows) (drop 7 rows) e

below_3 : (key : ℕ) → key < 2 ^ 29 → row_count ≡ 7 + row_from key (drop 7 rows)
unfolding some rows
below_3 key h = no_type_3 key (above_unkeyed key (2 ^ 29) (drop 7 rows) h refl)

above_0 : (key : ℕ) → 2 ^ 29 ≤ key → 7 + row_from key (drop 7 rows) ≡ row_from key rows
unfolding some rows
above_0 key h = no_type_0 key (below_unkeyed key (2 ^ 29) (take 7 rows) h refl)

-- no row of type 3 has the key: the topology's was asked for first
pub unknown_3 : (key : ℕ) → (key ≡ (the_row topology_row).key / 2 ^ 16 → ⊥)
    → Others (Unit {0}) (2 ^ 16) (take 6 (drop 7 rows) ++ drop 14 rows) key → row_count ≡ 7 + row_from (key * 2 ^ 16) (drop 7 rows)
unfolding rows the_row
unknown_3 key n o =
    let all = others_with (Unit {0}) (2 ^ 16) key (take 6 (drop 7 rows)) (the_row topology_row) (drop 14 rows) n o in
    no_type_3 (key * 2 ^ 16) (others_unkeyed (Unit {0}) (2 ^ 16) key (drop 7 rows) (lit< tt) all).1

unknown_0 : (key : ℕ) → key < 64 → Others (Unit {0}) (2 ^ 23) (take 7 rows) key → row_count ≡ row_from (key * 2 ^ 23) rows
unknown_0 key h o =
    below_3 (key * 2 ^ 23) (omega arith) ∙ no_type_0 (key * 2 ^ 23) (others_unkeyed (Unit {0}) (2 ^ 23) key (take 7 rows) (lit< tt) o).1

-- a header with a key of type 0
pub key_0 : (header k : ℕ) → header / 2 ^ 23 ≡ k → k < 64 → row_from (k * 2 ^ 23) rows ≡ row_of header
unfolding row_of key_of
key_0 header k e h =
    let t : field header 31 29 ≡ 0 = omega arith in
    rw (eq-eqb _ 0 t, e)

pub of_type_3 : (header : ℕ) → header < 2 ^ 32 → 2 ^ 29 ≤ header → row_from (header / 2 ^ 16 * 2 ^ 16) rows ≡ row_of header
unfolding row_of key_of
of_type_3 header f h = let t : (field header 31 29 ≡ 0 → ⊥) = λ e. omega arith in rw (ne_eqb _ 0 t)

-- a header with no key of type 0
pub key_3 : (header : ℕ) → header < 2 ^ 32 → Others (Unit {0}) (2 ^ 23) (take 7 rows) (header / 2 ^ 23)
    → 7 + row_from (header / 2 ^ 16 * 2 ^ 16) (drop 7 rows) ≡ row_of header
key_3 header f o = by (ltb header (2 ^ 29)) refl
  where
    by : (t : Bool) → ltb header (2 ^ 29) ≡ t → 7 + row_from (header / 2 ^ 16 * 2 ^ 16) (drop 7 rows) ≡ row_of header
    by true e =
        let h = ltb-true header (2 ^ 29) e in
        sym (below_3 (header / 2 ^ 16 * 2 ^ 16) (omega arith))
        ∙ unknown_0 (header / 2 ^ 23) (omega arith) o
        ∙ key_0 header (header / 2 ^ 23) refl (omega arith)
    by false e =
        let h = ltb-false header (2 ^ 29) e in
        above_0 (header / 2 ^ 16 * 2 ^ 16) (omega arith) ∙ of_type_3 header f h
