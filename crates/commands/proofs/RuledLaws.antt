-- Laws of the table of dwords that have a value rule: its words, and that no other dword has one.
-- Assumes nothing.
use Prim.Native.Nat.{ℕ, ◌+◌, ◌/◌, ◌%◌, ◌^◌, ◌≤◌, ◌<◌}
use native.Mathlib.Omega.{arith}
use mathlib.Core.Path.{◌≡◌, refl, ap, ◌∙◌}
use mathlib.Core.Bool.{Bool, true, false, cond, not, ◌||◌, and-false}
use mathlib.Core.List.{List, []}
use mathlib.Core.Logic.{⊎_elim}
use lib.ListN.{get_or-eq_default}
use lib.Bits.{bit_and, and_mask}
use lib.Dec.{eqb}
use borrow.Author.Tests.{eqb-true, not-true}
use Rattle.rules.specs.Words.{some}
use Rattle.rules.specs.Commands.{rows, the_row, group_size, row_count}
use Rattle.rules.specs.Uses.{uses_by_row, access_of, used_high_of}
use Rattle.rules.specs.Values.{value_rules, rule_of, high_wrong, value_wrong_of}
use Rattle.rules.proofs.Searching.{or_cases, never_both}
use Rattle.rules.proofs.Tables.{each, at_each}
use Rattle.commands.specs.Ruled.{ruled_dwords, ruled, as_bits, ruled_bits}

-- past the table's end there is none
pub none_past : (r : ℕ) → row_count ≤ r → 0 ≡ ruled_bits r
unfolding ruled_dwords as_bits ruled_bits
none_past r h = rw (get_or-eq_default ruled_dwords [] h)

-- a row's word has a bit for each dword of its line, and no other
bits_tested : each (λ r. each (λ j. eqb (ruled_bits r / 2 ^ j % 2) (cond (ruled r j) 1 0)) 16) row_count ≡ true
unfolding each some ruled_dwords ruled as_bits ruled_bits
bits_tested = refl

pub ruled_bit : (r j : ℕ) {word : ℕ} → r < row_count → j < 16 → word ≡ ruled_bits r → eqb (bit_and (word / 2 ^ j) 1) 1 ≡ ruled r j
ruled_bit r j {word} h l e =
    ap (λ (k : ℕ). eqb k 1)
    (and_mask (word / 2 ^ j) 1
    ∙ ap (λ (k : ℕ). k / 2 ^ j % 2) e
    ∙ eqb-true _ _
    (at_each (λ j. eqb (ruled_bits r / 2 ^ j % 2) (cond (ruled r j) 1 0)) 16
    (at_each (λ r. each (λ j. eqb (ruled_bits r / 2 ^ j % 2) (cond (ruled r j) 1 0)) 16) row_count bits_tested r h) j l))
    ∙ as_number (ruled r j)
  where
    as_number : (t : Bool) → eqb (cond t 1 0) 1 ≡ t
    as_number true = refl
    as_number false = refl

-- a dword that is not in its row's line breaks no rule, whatever the command
either_way : (t : Bool) → cond t false false ≡ false
either_way true = refl
either_way false = refl

module _ (d : List ℕ) (k : ℕ) where
  others_tested : each (λ r. each (λ j. ruled r j || not (value_wrong_of r d k j)) (group_size r + 1)) row_count ≡ true
  unfolding each some rows the_row group_size ruled_dwords ruled uses_by_row access_of used_high_of value_rules rule_of high_wrong value_wrong_of
  others_tested = simp (and-false, either_way)

  pub unruled : (r j : ℕ) → r < row_count → j ≤ group_size r → ruled r j ≡ false → value_wrong_of r d k j ≡ false
  unruled r j h l e =
      ⊎_elim (λ t. absurd (never_both t e)) (λ t. not-true _ t)
      (or_cases (ruled r j) _
      (at_each (λ j. ruled r j || not (value_wrong_of r d k j)) (group_size r + 1)
      (at_each (λ r. each (λ j. ruled r j || not (value_wrong_of r d k j)) (group_size r + 1)) row_count others_tested r h) j (omega arith)))
