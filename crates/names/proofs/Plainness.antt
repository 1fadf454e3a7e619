-- Every byte that stands as it is is plain: no control byte and no backslash. By a test of each row of the table, which is computed.
-- Assumes nothing.
use Prim.Native.Nat.{ℕ, zero, suc, ◌-◌, ◌<◌, ◌≤◌}
use native.Mathlib.Omega.{arith}
use mathlib.Core.Path.{◌≡◌, refl}
use mathlib.Core.Bool.{Bool, true, not, ◌&&◌, ◌||◌}
use mathlib.Core.List.{List, [], ◌∷◌}
use mathlib.Core.Logic.{⊎_elim}
use lib.ListN.{get_or}
use lib.Dec.{leb, ltb, eqb-suc-zero}
use borrow.Author.Tests.{lt-ltb, leb-true, ltb-true}
use Rattle.rules.specs.Formats.{between}
use Rattle.rules.proofs.Searching.{either, or_cases, and_left, and_right}
use Rattle.names.specs.Names.{no_byte, characters, fits, first_fit, standing, standing_on}

pub record Plain (byte : ℕ) : Type 0 where
  pub low : 0x20 ≤ byte
  pub no_delete : byte ≡ 0x7F → ⊥
  pub no_backslash : byte ≡ 0x5C → ⊥

-- a range that has only such bytes, by its ends
plain_range : ℕ → ℕ → Bool
plain_range low high = (leb 0x20 low && ltb high 0x5C) || ((ltb 0x5C low && ltb high 0x7F) || ltb 0x7F low)

plain_in : (low high byte : ℕ) → plain_range low high ≡ true → between low high byte ≡ true → Plain byte
unfolding plain_range
plain_in low high byte p e =
    let above : low ≤ byte = leb-true low byte (and_left (leb low byte) _ e) in
    let below : byte ≤ high = leb-true byte high (and_right (leb low byte) _ e) in
    ⊎_elim
    (λ q.
    let l = leb-true 0x20 low (and_left (leb 0x20 low) _ q) in
    let h = ltb-true high 0x5C (and_right (leb 0x20 low) _ q) in
    record { low = omega arith; no_delete = λ d. omega arith; no_backslash = λ d. omega arith })
    (λ r. ⊎_elim
    (λ q.
    let l = ltb-true 0x5C low (and_left (ltb 0x5C low) _ q) in
    let h = ltb-true high 0x7F (and_right (ltb 0x5C low) _ q) in
    record { low = omega arith; no_delete = λ d. omega arith; no_backslash = λ d. omega arith })
    (λ q.
    let l = ltb-true 0x7F low q in
    record { low = omega arith; no_delete = λ d. omega arith; no_backslash = λ d. omega arith })
    (or_cases (ltb 0x5C low && ltb high 0x7F) _ r))
    (or_cases (leb 0x20 low && ltb high 0x5C) _ p)

-- a row whose ranges are such for each byte that stands
plain_from : List ℕ → ℕ → ℕ → ℕ → Bool
plain_from row k low high = not (ltb k (get_or row 0 0)) || plain_range (get_or row low 0) (get_or row high 0)

plain_row : List ℕ → Bool
plain_row row =
    leb (get_or row 0 0) 4 && (plain_from row 0 1 2 && (plain_from row 1 3 4 && (plain_from row 2 5 6 && plain_from row 3 7 8)))

plain_rows : List (List ℕ) → Bool
plain_rows [] = true
plain_rows (row ∷ rows) = plain_row row && plain_rows rows

table_plain : plain_rows characters ≡ true
unfolding characters plain_range plain_from plain_row plain_rows
table_plain = refl

-- four bytes of which the first n stand: each of those is plain
record Front (n a b c d : ℕ) : Type 0 where
  few : n ≤ 4
  first : 0 < n → Plain a
  second : 1 < n → Plain b
  third : 2 < n → Plain c
  fourth : 3 < n → Plain d

from_row : (row : List ℕ) (k low high byte : ℕ) → plain_from row k low high ≡ true
    → between (get_or row low 0) (get_or row high 0) byte ≡ true → k < get_or row 0 0 → Plain byte
unfolding plain_from
from_row row k low high byte p e h =
    plain_in (get_or row low 0) (get_or row high 0) byte (rw (lt-ltb k (get_or row 0 0) h) at p) e

row_front : (row : List ℕ) (a b c d : ℕ) → plain_row row ≡ true → fits row a b c d ≡ true → Front (get_or row 0 0) a b c d
unfolding fits plain_row
row_front row a b c d p e =
    let p₀ = and_right (leb (get_or row 0 0) 4) _ p in
    let p₁ = and_right (plain_from row 0 1 2) _ p₀ in
    let p₂ = and_right (plain_from row 1 3 4) _ p₁ in
    let e₁ = and_right (between (get_or row 1 0) (get_or row 2 0) a) _ e in
    let e₂ = and_right (between (get_or row 3 0) (get_or row 4 0) b) _ e₁ in
    record {
      few = leb-true (get_or row 0 0) 4 (and_left (leb (get_or row 0 0) 4) _ p);
      first = from_row row 0 1 2 a (and_left (plain_from row 0 1 2) _ p₀) (and_left (between (get_or row 1 0) (get_or row 2 0) a) _ e);
      second = from_row row 1 3 4 b (and_left (plain_from row 1 3 4) _ p₁) (and_left (between (get_or row 3 0) (get_or row 4 0) b) _ e₁);
      third = from_row row 2 5 6 c (and_left (plain_from row 2 5 6) _ p₂) (and_left (between (get_or row 5 0) (get_or row 6 0) c) _ e₂);
      fourth = from_row row 3 7 8 d (and_right (plain_from row 2 5 6) _ p₂) (and_right (between (get_or row 5 0) (get_or row 6 0) c) _ e₂);
    }

rows_front : (rows : List (List ℕ)) (a b c d : ℕ) → plain_rows rows ≡ true → Front (first_fit rows a b c d) a b c d
unfolding first_fit plain_rows
rows_front [] a b c d p = record {
  few = omega arith;
  first = λ h. absurd (omega arith);
  second = λ h. absurd (omega arith);
  third = λ h. absurd (omega arith);
  fourth = λ h. absurd (omega arith);
}
rows_front (row ∷ rows) a b c d p =
    ⊎_elim (λ e. rw e (row_front row a b c d (and_left (plain_row row) _ p) e))
    (λ e. rw e (rows_front rows a b c d (and_right (plain_row row) _ p))) (either (fits row a b c d))

-- each of the first n bytes of a name is plain
abbrev pub PlainFront : ℕ → List ℕ → Type 0
PlainFront n name = (k : ℕ) → k < n → Plain (get_or name k no_byte)

front_plain : (n : ℕ) (name : List ℕ) → Front n (get_or name 0 no_byte) (get_or name 1 no_byte) (get_or name 2 no_byte) (get_or name 3 no_byte)
    → PlainFront n name
front_plain n name f zero h = f.first h
front_plain n name f (suc zero) h = f.second h
front_plain n name f (suc (suc zero)) h = f.third h
front_plain n name f (suc (suc (suc zero))) h = f.fourth h
front_plain n name f (suc (suc (suc (suc k)))) h = absurd (omega (arith, f.few))

pub standing_plain : (left : ℕ) (name : List ℕ) → PlainFront left name → PlainFront (standing_on left name) name
unfolding standing standing_on
standing_plain zero name f = front_plain (standing name) name (rows_front characters _ _ _ _ table_plain)
standing_plain (suc left) name f = rw (eqb-suc-zero left) f

pub rest_plain : (n byte : ℕ) (rest : List ℕ) → PlainFront n (byte ∷ rest) → PlainFront (n - 1) rest
rest_plain n byte rest f k h = f (suc k) (omega arith)
