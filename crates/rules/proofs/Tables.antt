-- Rules of the tables, each a test that antt computes over the whole table and a law that turns it into the rule at each entry.
-- Assumes nothing.
use Prim.Native.Nat.{ℕ, zero, suc, ◌≤◌, ◌<◌}
use native.Mathlib.Nat.{le_of_suc-le-suc, eq-or-lt_of_le}
use native.Mathlib.Omega.{arith}
use mathlib.Core.Path.{◌≡◌, refl, sym, ap, ◌∙◌}
use mathlib.Core.Bool.{Bool, true, false, cond, not, ◌&&◌, ◌||◌, and-false}
use mathlib.Core.List.{List, [], ◌∷◌}
use mathlib.Core.Logic.{⊎_elim}
use lib.ListN.{length, get_or}
use lib.Dec.{leb, ltb, eqb}
use borrow.Author.Tests.{leb-true, leb-false, ltb-true, ltb-false, eqb-true, ne_eqb, lt-ltb, lt-leb, not-false}
use Rattle.rules.specs.Words.{bit, field, cleared, some}
use Rattle.rules.specs.Commands.{Row, rows, row_count, key_of, row_from, row_of, the_row}
use Rattle.rules.specs.Formats.{surface_formats, format_bits, block_bits, block_rule, between, blend_factors, blend_functions, named_factor, named_function}
use Rattle.rules.proofs.Searching.{some_left, some_right, or_cases, and_left, and_right}

-- a test passes at each number below n
unfoldable pub each : (ℕ → Bool) → ℕ → Bool
each test zero = true
each test (suc n) = test n && each test n

pub at_each : (test : ℕ → Bool) (n : ℕ) → each test n ≡ true → (k : ℕ) → k < n → test k ≡ true
unfolding each
at_each test zero e k h = absurd (omega arith)
at_each test (suc n) e k h =
    ⊎_elim (λ q. ap test q ∙ and_left (test n) (each test n) e) (λ l. at_each test n (and_right (test n) (each test n) e) k l)
    (eq-or-lt_of_le (le_of_suc-le-suc h))

-- SURFACE_FORMAT has an entry for each 9-bit code, and the rule over the whole table holds at each
pub formats_counted : length surface_formats ≡ 512
unfolding surface_formats
formats_counted = refl

blocks_tested : each (λ code. block_rule code (format_bits code)) 512 ≡ true
unfolding each surface_formats format_bits
blocks_tested = refl

pub block_rule_lem : (code : ℕ) → code < 512 → block_rule code (format_bits code) ≡ true
block_rule_lem = at_each (λ code. block_rule code (format_bits code)) 512 blocks_tested

-- so it holds of any table that is this one: of the code's, which `walk::run` shows to be so by computation
pub block_rule_of : (table : List ℕ) → table ≡ surface_formats → (code : ℕ) → code < 512 → block_rule code (get_or table code 0) ≡ true
unfolding format_bits
block_rule_of table e code h = rw e (block_rule_lem code h)

pub format_at_most : (code : ℕ) → code < 512 → format_bits code ≤ 256
format_at_most code h = leb-true _ _ (and_left (leb (format_bits code) 256) _ (block_rule_lem code h))

pub format_blocks : (code : ℕ) → code < 0x0C0 → format_bits code ≡ block_bits code
format_blocks code h =
    let r = and_right (leb (format_bits code) 256) _ (block_rule_lem code (omega arith)) in
    eqb-true _ _ (ap (λ t. cond t (eqb (format_bits code) (block_bits code)) true) (sym (lt-ltb code 0x0C0 h)) ∙ r)

-- the codes that document 000 names, as ranges: 01h..0Ah, 11h..15h and 17h..1Ah of all 32 factors, and 0..4 of all 8 functions
abbrev pub factor_range : ℕ → Bool
factor_range code = between 0x01 0x0A code || (between 0x11 0x15 code || between 0x17 0x1A code)

unfoldable pub same : Bool → Bool → Bool
same true b = b
same false b = not b

same_is : (a b : Bool) → same a b ≡ true → a ≡ b
unfolding same
same_is true true e = refl
same_is true false e = sym e
same_is false true e = e
same_is false false e = refl

-- a code above all of a list is not in it
pub past_listed : (most code : ℕ) (codes : List ℕ) → some (λ k. leb most k) codes ≡ false → most ≤ code → some (eqb code) codes ≡ false
unfolding some
past_listed most code [] t h = refl
past_listed most code (k ∷ codes) t h =
    let l = leb-false most k (some_left (leb most k) _ t) in
    rw (ne_eqb code k (λ e. omega arith)) (past_listed most code codes (some_right (leb most k) _ t) h)

-- two tests that agree below a number, which is computed, and from there on, which is a law of the two
module _ (a b : ℕ → Bool) (n : ℕ) (t : each (λ k. same (a k) (b k)) n ≡ true) (p : (k : ℕ) → n ≤ k → a k ≡ b k) where
  everywhere : (k : ℕ) → a k ≡ b k
  everywhere k = by (ltb k n) refl
    where
      by : (l : Bool) → ltb k n ≡ l → a k ≡ b k
      by true e = same_is _ _ (at_each (λ k. same (a k) (b k)) n t k (ltb-true k n e))
      by false e = p k (ltb-false k n e)

-- a word with a bit for each of the codes below 64 that are known, where none above is
pub in_word : (word : ℕ) (known : ℕ → Bool) → each (λ k. same (bit word k) (known k)) 64 ≡ true → ((k : ℕ) → 64 ≤ k → known k ≡ false)
    → (code : ℕ) → (ltb code 64 && bit word code) ≡ known code
in_word word known t p code = by (ltb code 64) refl
  where
    by : (l : Bool) → ltb code 64 ≡ l → (l && bit word code) ≡ known code
    by true e = same_is _ _ (at_each (λ k. same (bit word k) (known k)) 64 t code (ltb-true code 64 e))
    by false e = sym (p code (ltb-false code 64 e))

factors_tested : each (λ code. same (named_factor code) (factor_range code)) 32 ≡ true
unfolding each some blend_factors named_factor same
factors_tested = refl

factors_past : (code : ℕ) → 32 ≤ code → named_factor code ≡ factor_range code
unfolding some blend_factors named_factor
factors_past code h =
    past_listed 32 code blend_factors refl h
    ∙ sym (simp (lt-leb code 0x0A (omega arith), lt-leb code 0x15 (omega arith), lt-leb code 0x1A (omega arith), and-false))

pub factor_named : (code : ℕ) → named_factor code ≡ factor_range code
factor_named = everywhere named_factor factor_range 32 factors_tested factors_past

functions_tested : each (λ code. same (named_function code) (leb code 4)) 8 ≡ true
unfolding each some blend_functions named_function same
functions_tested = refl

functions_past : (code : ℕ) → 8 ≤ code → named_function code ≡ leb code 4
unfolding some blend_functions named_function
functions_past code h = past_listed 8 code blend_functions refl h ∙ sym (lt-leb code 4 (omega arith))

pub function_named : (code : ℕ) → named_function code ≡ leb code 4
function_named = everywhere named_function (λ code. leb code 4) 8 functions_tested functions_past

-- each row's key is found as that row, so no key stands twice
keys_tested : each (λ r. eqb (row_of (the_row r).key) r) row_count ≡ true
unfolding each rows the_row key_of row_from row_of
keys_tested = refl

pub key_found : (r : ℕ) → r < row_count → row_of (the_row r).key ≡ r
key_found r h = eqb-true _ _ (at_each (λ r. eqb (row_of (the_row r).key) r) row_count keys_tested r h)

-- a header whose type is neither 0 nor 3 is in no row: its bits 31:16 hold its type, and each key has type 0 or 3
known_type : Row → Bool
known_type r = eqb (field r.key 31 29) 0 || eqb (field r.key 31 29) 3

rowless : (key : ℕ) (rs : List Row) → some (λ r. not (known_type r)) rs ≡ false → (field key 31 29 ≡ 0 → ⊥)
    → (field key 31 29 ≡ 3 → ⊥) → row_from key rs ≡ length rs
unfolding row_from some known_type
rowless key [] t n m = refl
rowless key (r ∷ rs) t n m =
    let k : (key ≡ r.key → ⊥) = λ q.
    ⊎_elim (λ z. n (ap (λ (i : ℕ). field i 31 29) q ∙ eqb-true _ _ z)) (λ z. m (ap (λ (i : ℕ). field i 31 29) q ∙ eqb-true _ _ z))
    (or_cases (eqb (field r.key 31 29) 0) _ (not-false _ (some_left (not (known_type r)) _ t))) in
    rw (ne_eqb _ _ k) (ap suc (rowless key rs (some_right (not (known_type r)) _ t) n m))

types_tested : some (λ r. not (known_type r)) rows ≡ false
unfolding some rows known_type
types_tested = refl

same_type : (header : ℕ) → field (cleared header 16) 31 29 ≡ field header 31 29
same_type header = omega arith

pub unknown_type : (header : ℕ) → (field header 31 29 ≡ 0 → ⊥) → (field header 31 29 ≡ 3 → ⊥) → row_of header ≡ row_count
unfolding row_of key_of
unknown_type header n m =
    rw (ne_eqb _ 0 n) (rowless (cleared header 16) rows types_tested (λ q. n (sym (same_type header) ∙ q)) (λ q. m (sym (same_type header) ∙ q)))
