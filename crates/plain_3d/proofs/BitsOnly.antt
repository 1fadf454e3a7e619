-- Rows of one length with no value rule and no address: 10 is all that can be wrong with their dwords.
-- Assumes nothing.
use Prim.Native.Nat.{ℕ, ◌+◌, ◌-◌, ◌%◌, ◌≤◌, ◌<◌}
use native.Mathlib.Omega.{arith}
use mathlib.Core.Path.{◌≡◌, refl, sym, ap, fun_ext, ◌∙◌}
use mathlib.Core.Bool.{Bool, true, false, cond, not}
use mathlib.Core.List.{List, [], ◌∷◌}
use mathlib.Core.Logic.{⊎_elim}
use lib.ListN.{length, get_or}
use lib.Dec.{eqb}
use borrow.Author.Tests.{eqb-true, eqb-false}
use Rattle.rules.specs.declared.Windows.{Windows}
use Rattle.rules.specs.declared.Level.TheVariants.{First}
use Rattle.rules.specs.declared.Reason.TheVariants.{BitNotAllowed}
use Rattle.rules.specs.Words.{allowed, in_group, first_from}
use Rattle.rules.specs.Refusals.{number_of}
use Rattle.rules.specs.Commands.{exactly, Row, row_count, the_row, row_of, spot, group_size}
use Rattle.rules.specs.Masks.{header_mask, masks_of, allowed_of, allowed_at, bit_wrong}
use Rattle.rules.specs.Uses.{Uses, no_use, access_of, is_used, used_high_of}
use Rattle.rules.specs.Values.{Rule, no_rule, rule_of, high_wrong, value_wrong_of, value_wrong}
use Rattle.rules.proofs.Searching.{either, finds_none}
use Rattle.looks.specs.Looks.{content_of}
use Rattle.plain_shared.specs.Plain.{coded, first_coded, wrong_of, whole_header}
use Rattle.plain_3d.specs.Pointer.{pointer_of}
use Rattle.plain_shared.proofs.Bare.{no_address, no_range}
use Rattle.plain_shared.proofs.Coding.{alone}
use Rattle.plain_shared.proofs.Lengths.{listed, as_many, exact_says}
use Rattle.plain_shared.proofs.Whole.{WholeRow, whole_refuses, head_is, head_fits, first_answers, then_answers}

-- where no address is used, no dword is a used high dword
no_high : (r : ℕ) → access_of r ≡ no_use → (d : List ℕ) (k j : ℕ) → used_high_of r d k j ≡ false
unfolding used_high_of
no_high r e d k j = ap (λ (u : Uses). is_used (u d (k - 1) (j - 1) (get_or d (k - 1) 0))) e

no_value : (r : ℕ) → rule_of r ≡ no_rule → access_of r ≡ no_use → (d : List ℕ) → value_wrong r d ≡ (λ (k : ℕ). false)
unfolding high_wrong value_wrong_of value_wrong
no_value r e u d = fun_ext (λ k. rw (no_high r u d k (spot r k)) (ap (λ (rule : Rule). rule d k (spot r k) (get_or d k 0)) e))

module _ (r f : ℕ) (t : (the_row r).total ≡ exactly f) (no_rule_lem : rule_of r ≡ no_rule) (no_use_lem : access_of r ≡ no_use) (w : Windows)
    (rest : List ℕ) (e : get_or rest 0 0 % 256 ≡ f) (h : f + 2 ≤ length rest) where
  bits_only : (d : List ℕ) → first_coded BitNotAllowed (bit_wrong r d) 0 (length d) ≡ coded (content_of w r d 0 First)
  unfolding content_of
  bits_only d =
      let none = finds_none (λ (i : ℕ). false) 0 (length d) (λ i from to. refl) in
      rw (no_value r no_rule_lem no_use_lem d, no_range r (no_address r no_use_lem) w d, none) (alone _)

  pub bits_say : {x : ℕ} → x ≡ first_coded BitNotAllowed (bit_wrong r (listed rest 0 (f + 2))) 0 (f + 2) → x ≡ wrong_of w r rest First
  bits_say q =
      exact_says r f t w rest First e h
      (q
      ∙ ap (first_coded BitNotAllowed (bit_wrong r (listed rest 0 (f + 2))) 0) (sym (as_many rest 0 (f + 2)))
      ∙ bits_only (listed rest 0 (f + 2)))

-- with one dword behind the header: whether that keeps its mask
pub record PointerRow (r header mask : ℕ) : Type 0 where
  pub one : WholeRow r header
  pub short : header % 256 ≡ 0
  pub no_rule_lem : rule_of r ≡ no_rule
  pub no_use_lem : access_of r ≡ no_use
  pub kept : allowed header (header_mask (the_row r)) ≡ true
  pub masks : (the_row r).masks ≡ mask ∷ []

-- such a row, by its line in the table
pub points : {r header mask : ℕ} → r < row_count → the_row r ≡ record { key = header; free = 0; total = exactly 0; masks = mask ∷ [] }
    → header % 256 ≡ 0 → rule_of r ≡ no_rule → access_of r ≡ no_use → allowed header (header_mask (the_row r)) ≡ true → PointerRow r header mask
points {header = header} known line short rule uses kept = record {
  one = record {
    known = known;
    total = ap (λ (w : Row). w.total) line ∙ ap exactly (sym short);
    key = ap (λ (w : Row). w.key) line ∙ omega arith;
    free = ap (λ (w : Row). w.free) line;
  };
  short = short;
  no_rule_lem = rule;
  no_use_lem = uses;
  kept = kept;
  masks = ap (λ (w : Row). w.masks) line;
}

module _ {r header mask : ℕ} (g : PointerRow r header mask) (w : Windows) (rest : List ℕ) where
  total : (the_row r).total ≡ exactly 0
  total = g.one.total ∙ ap exactly g.short

  module _ (z : whole_header rest header ≡ 0) where
    field : get_or rest 0 0 % 256 ≡ 0
    field = ap (λ (h : ℕ). h % 256) (head_is rest header refl z) ∙ g.short

    fits : 2 ≤ length rest
    fits = omega (arith, head_fits rest header refl z, g.short)

    kept : allowed (get_or rest 0 0) (header_mask (the_row r)) ≡ true
    kept = ap (λ (h : ℕ). allowed h (header_mask (the_row r))) (head_is rest header refl z) ∙ g.kept

    dword_decides : (wrong : Bool) → not (allowed (get_or rest 1 0) mask) ≡ wrong → cond wrong 2561 0 ≡ wrong_of w r rest First
    unfolding coded first_from number_of bit_wrong allowed_at allowed_of masks_of in_group group_size
    dword_decides true a = bits_say r 0 total g.no_rule_lem g.no_use_lem w rest field fits (rw (no_high r g.no_use_lem, kept, no_high r g.no_use_lem, g.masks, a))
    dword_decides false a = bits_say r 0 total g.no_rule_lem g.no_use_lem w rest field fits (rw (no_high r g.no_use_lem, kept, no_high r g.no_use_lem, g.masks, a))

  pub pointer_decides : row_of (get_or rest 0 0) ≡ r → {x : ℕ} → x ≡ pointer_of rest header mask → x ≡ wrong_of w r rest First
  unfolding pointer_of
  pointer_decides row e =
      ⊎_elim
      (λ p. let z = eqb-true (whole_header rest header) 0 p in e ∙ then_answers _ _ z ∙ dword_decides z _ refl)
      (λ p.
      let n = eqb-false (whole_header rest header) 0 p in
      e ∙ first_answers _ _ n ∙ whole_refuses g.one w rest First refl row n) (either (eqb (whole_header rest header) 0))
