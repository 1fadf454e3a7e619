-- The length of a command, of any row: its field (8), whether it ends in the window (9), and what is left for its own dwords to say.
-- Assumes nothing.
use Prim.Native.Nat.{ℕ, zero, suc, ◌+◌, ◌%◌, ◌≤◌, ◌<◌}
use native.Mathlib.Omega.{arith}
use native.Mathlib.Numerals.{add-one}
use mathlib.Core.Path.{◌≡◌, refl, sym, ap, ◌∙◌}
use mathlib.Core.Bool.{true, false}
use mathlib.Core.List.{List, [], ◌∷◌}
use lib.ListN.{length, get_or, take}
use borrow.Author.Tests.{eq-eqb, ne_eqb, le-ltb, lt-ltb}
use Rattle.rules.specs.declared.Level.{Level}
use Rattle.rules.specs.declared.Windows.{Windows}
use Rattle.rules.specs.Words.{field}
use Rattle.rules.specs.Commands.{exactly, the_row, length_of, length_right}
use Rattle.rules.specs.Refusals.{number_of}
use Rattle.looks.specs.Looks.{content_of}
use Rattle.plain_shared.specs.Plain.{coded, wrong_of}

-- "the field in bits 7:0"
pub field_is : (x : ℕ) → field x 7 0 ≡ x % 256
field_is x = omega arith

-- a row of one length: its field is right where it is the row's one value
module _ (r f : ℕ) (t : (the_row r).total ≡ exactly f) (x : ℕ) where
  pub exact_wrong : (x % 256 ≡ f → ⊥) → length_right r x ≡ false
  unfolding length_right
  exact_wrong n = rw (t, field_is x, ne_eqb (x % 256) f n)

  pub exact_right : x % 256 ≡ f → length_right r x ≡ true
  unfolding length_right
  exact_right e = rw (t, field_is x, eq-eqb (x % 256) f e)

  pub exact_long : x % 256 ≡ f → length_of r x ≡ f + 2
  unfolding length_of
  exact_long e = rw (t, field_is x, e)

-- the n dwords from k on, one by one
abbrev pub listed : List ℕ → ℕ → ℕ → List ℕ
listed rest k zero = []
listed rest k (suc n) = get_or rest k 0 ∷ listed rest (k + 1) n

pub as_many : (rest : List ℕ) (k n : ℕ) → length (listed rest k n) ≡ n
as_many rest k zero = refl
as_many rest k (suc n) = ap suc (as_many rest (k + 1) n)

listed_behind : (x : ℕ) (rest : List ℕ) (k n : ℕ) → listed rest k n ≡ listed (x ∷ rest) (k + 1) n
listed_behind x rest k zero = refl
listed_behind x rest k (suc n) =
    ap (λ (l : List ℕ). get_or rest k 0 ∷ l) (listed_behind x rest (k + 1) n)
    ∙ ap (λ (i : ℕ). get_or (x ∷ rest) i 0 ∷ listed (x ∷ rest) (k + 1 + 1) n) (sym (add-one k))

front : (n : ℕ) (rest : List ℕ) → n ≤ length rest → take n rest ≡ listed rest 0 n
front zero rest h = refl
front (suc n) [] h = absurd (omega arith)
front (suc n) (x ∷ rest) h = ap (λ (l : List ℕ). x ∷ l) (front n rest (omega arith) ∙ listed_behind x rest 0 n)

-- 8, 9, and what is left
module _ (w : Windows) (r : ℕ) (rest : List ℕ) (level : Level) where
  pub length_says : length_right r (get_or rest 0 0) ≡ false → 2048 ≡ wrong_of w r rest level
  unfolding wrong_of coded number_of
  length_says e = rw e

  module _ (e : length_right r (get_or rest 0 0) ≡ true) {n : ℕ} (q : length_of r (get_or rest 0 0) ≡ n) where
    pub past_says : length rest < n → 2304 ≡ wrong_of w r rest level
    unfolding wrong_of coded number_of
    past_says h = rw (e, q, lt-ltb _ _ h)

    pub content_says : n ≤ length rest → coded (content_of w r (take n rest) 0 level) ≡ wrong_of w r rest level
    unfolding wrong_of
    content_says h = rw (e, q, le-ltb _ _ h)

    -- with the dwords one by one: of a row and a number that are known, it computes
    pub listed_says : n ≤ length rest → coded (content_of w r (listed rest 0 n) 0 level) ≡ wrong_of w r rest level
    listed_says h = ap (λ (d : List ℕ). coded (content_of w r d 0 level)) (sym (front n rest h)) ∙ content_says h

-- 9, and what is left, of a row of one length whose field is right
module _ (r f : ℕ) (t : (the_row r).total ≡ exactly f) (w : Windows) (rest : List ℕ) (level : Level) (e : get_or rest 0 0 % 256 ≡ f) where
  pub exact_past : length rest < f + 2 → 2304 ≡ wrong_of w r rest level
  exact_past h = past_says w r rest level (exact_right r f t _ e) (exact_long r f t _ e) h

  pub exact_says : f + 2 ≤ length rest → {x : ℕ} → x ≡ coded (content_of w r (listed rest 0 (f + 2)) 0 level) → x ≡ wrong_of w r rest level
  exact_says h q = q ∙ listed_says w r rest level (exact_right r f t _ e) (exact_long r f t _ e) h
