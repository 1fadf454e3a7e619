-- A row with one length whose header has no free bits, any of them: its header refuses, or it is the table's, and the dwords decide.
-- Assumes nothing.
use Prim.Native.Nat.{ℕ, zero, suc, ◌+◌, ◌-◌, ◌%◌, ◌≤◌, ◌<◌}
use native.Mathlib.Omega.{arith}
use mathlib.Core.Path.{◌≡◌, refl, sym, ap, ◌∙◌}
use mathlib.Core.List.{List}
use lib.ListN.{length, get_or}
use lib.Dec.{eqb, ltb}
use borrow.Author.Tests.{eqb-true, eqb-false, ltb-false}
use Rattle.rules.specs.declared.Windows.{Windows}
use Rattle.rules.specs.declared.Level.{Level}
use Rattle.rules.specs.Commands.{exactly, row_count, the_row, row_of, length_of, length_right}
use Rattle.rules.specs.Masks.{header_mask}
use Rattle.plain_shared.specs.Plain.{wrong_of, whole_header, or_then}
use Rattle.plain_shared.proofs.Lengths.{field_is, listed, exact_right, exact_long}
use Rattle.plain_shared.proofs.Headers.{not_between, head_refuses, head_passes}
use Rattle.plain_shared.proofs.Tests.{content, whole}

-- a row that has this one header
pub record WholeRow (r header : ℕ) : Type 0 where
  pub known : r < row_count
  pub total : (the_row r).total ≡ exactly (header % 256)
  pub key : (the_row r).key ≡ header - header % 256
  pub free : (the_row r).free ≡ 0

module _ (rest : List ℕ) (header : ℕ) {x : ℕ} (e : x ≡ whole_header rest header) (z : x ≡ 0) where
  pub head_is : get_or rest 0 0 ≡ header
  unfolding whole_header
  head_is = eqb-true _ _ (head_passes _ _ _ (sym e ∙ z)).2

  pub head_fits : header % 256 + 2 ≤ length rest
  unfolding whole_header
  head_fits = ltb-false _ _ (head_passes _ _ _ (sym e ∙ z)).1

module _ {r header : ℕ} (g : WholeRow r header) (w : Windows) (rest : List ℕ) (level : Level) {x : ℕ} (e : x ≡ whole_header rest header) where
  pub whole_refuses : row_of (get_or rest 0 0) ≡ r → (x ≡ 0 → ⊥) → x ≡ wrong_of w r rest level
  unfolding length_right length_of whole_header
  whole_refuses row n =
      let mask : header_mask (the_row r) ≡ (the_row r).key + ((the_row r).free + 255) = rw g.total in
      e
      ∙ head_refuses w r rest level (header % 256 + 2) (eqb (get_or rest 0 0 % 256) (header % 256)) (ltb (length rest) (header % 256 + 2))
      (eqb (get_or rest 0 0) header) (rw (g.total, field_is (get_or rest 0 0)))
      (λ t. rw g.total (ap (λ (f : ℕ). f + 2) (field_is _ ∙ eqb-true (get_or rest 0 0 % 256) (header % 256) t))) (omega arith) refl
      (λ t k. not_between r rest g.known row (λ b low high. eqb-false (get_or rest 0 0) header k
      (omega (arith, eqb-true (get_or rest 0 0 % 256) (header % 256) t, g.key, g.free, mask)))) (λ z. n (e ∙ z))

  pub whole_decides : x ≡ 0 → wrong_of w r rest level ≡ content w r (listed rest 0 (header % 256 + 2)) level (header % 256 + 2)
  whole_decides z =
      let field = ap (λ (h : ℕ). h % 256) (head_is rest header e z) in
      whole w r rest level (exact_right r _ g.total _ field) (header % 256 + 2) (exact_long r _ g.total _ field)
      (head_fits rest header e z)

-- one answer and another
pub first_answers : (x later : ℕ) → (x ≡ 0 → ⊥) → or_then x later ≡ x
unfolding or_then
first_answers zero later n = absurd (n refl)
first_answers (suc x) later n = refl

pub then_answers : (x later : ℕ) → x ≡ 0 → or_then x later ≡ later
unfolding or_then
then_answers zero later e = refl
then_answers (suc x) later e = absurd (omega arith)

pub both_zero : (x later : ℕ) → or_then x later ≡ 0 → (x ≡ 0) × (later ≡ 0)
unfolding or_then
both_zero zero later e = (refl, e)
both_zero (suc x) later e = absurd (omega arith)
