-- Laws of "nothing is wrong with the dwords from k on": the three tests together, and each as the number of its first fault.
-- Assumes nothing.
use Prim.Native.Nat.{ℕ, zero, suc, ◌+◌}
use native.Mathlib.Omega.{arith}
use mathlib.Core.Path.{◌≡◌, refl, sym, ap, ◌∙◌}
use mathlib.Core.Bool.{Bool, true, false, not, ◌&&◌, ◌||◌, and-false}
use mathlib.Core.List.{List}
use mathlib.Core.Logic.{⊎_elim}
use lib.Dec.{eqb}
use borrow.Author.Tests.{eqb-true, eq-eqb, ne_eqb}
use Rattle.rules.specs.declared.Reason.{Reason}
use Rattle.rules.specs.declared.Reason.TheVariants.{BitNotAllowed, ValueBroken, RangeOutside}
use Rattle.rules.specs.declared.Windows.{Windows}
use Rattle.rules.specs.Uses.{no_use, access_of}
use Rattle.rules.specs.Masks.{bit_wrong}
use Rattle.rules.specs.Values.{value_wrong}
use Rattle.rules.specs.Addresses.{range_wrong}
use Rattle.rules.proofs.Searching.{either, and_left, and_right}
use Rattle.rules.proofs.Unique.{above_zero}
use Rattle.plain_shared.specs.Plain.{first_coded, free_from, faulty, clean_from}
use Rattle.plain_shared.proofs.Bare.{no_address, no_range}
use Rattle.plain_shared.proofs.Coding.{is_first, not_first, none_left}

-- free of faults is: the number of the first fault is 0
module _ (reason : Reason) (bad : ℕ → Bool) where
  free_is : (k n : ℕ) → free_from bad k n ≡ eqb (first_coded reason bad k n) 0
  unfolding free_from
  free_is k zero = sym (eq-eqb _ _ (none_left reason bad k))
  free_is k (suc n) =
      ⊎_elim
      (λ p. rw p (sym (ne_eqb _ _ (λ z. let q = sym (is_first reason bad k n p) ∙ z in omega (arith, above_zero reason)))))
      (λ p. rw p (free_is (k + 1) n ∙ ap (λ (i : ℕ). eqb i 0) (sym (not_first reason bad k n p)))) (either (bad k))

  pub free_coded : (k n : ℕ) → free_from bad k n ≡ true → first_coded reason bad k n ≡ 0
  free_coded k n e = eqb-true _ _ (sym (free_is k n) ∙ e)

  pub coded_free : (k n : ℕ) → first_coded reason bad k n ≡ 0 → free_from bad k n ≡ true
  coded_free k n e = free_is k n ∙ eq-eqb _ _ e

  pub coded_faulty : (k n : ℕ) → (first_coded reason bad k n ≡ 0 → ⊥) → free_from bad k n ≡ false
  coded_faulty k n e = free_is k n ∙ ne_eqb _ _ e

-- the three tests together: bits, values, ranges
together : (a b c x y z : Bool) → ((not a && x) && ((not b && y) && (not c && z))) ≡ (not (a || (b || c)) && (x && (y && z)))
together true b c x y z = refl
together false true c x y z = and-false x
together false false true x y z = ap (λ t. x && t) (and-false y) ∙ and-false x
together false false false x y z = refl

module _ (w : Windows) (r : ℕ) (d : List ℕ) where
  pub all_three_lem : (k n : ℕ)
      → (free_from (bit_wrong r d) k n && (free_from (value_wrong r d) k n && free_from (range_wrong w r d) k n)) ≡ clean_from w r d k n
  unfolding free_from faulty
  all_three_lem k zero = refl
  all_three_lem k (suc n) =
      together (bit_wrong r d k) (value_wrong r d k) (range_wrong w r d k) _ _ _
      ∙ ap (λ t. not (faulty w r d k) && t) (all_three_lem (k + 1) n)

  -- a row with no address
  pub no_ranges : access_of r ≡ no_use → (k n : ℕ) → free_from (range_wrong w r d) k n ≡ true
  unfolding free_from
  no_ranges e k n = ap (λ (bad : ℕ → Bool). free_from bad k n) (no_range r (no_address r e) w d) ∙ never k n
    where
      never : (k n : ℕ) → free_from (λ (i : ℕ). false) k n ≡ true
      never k zero = refl
      never k (suc n) = never (k + 1) n

  module _ (k n : ℕ) where
    -- a bit is wrong, or a value, or else the ranges decide
    pub bits_fail : (first_coded BitNotAllowed (bit_wrong r d) k n ≡ 0 → ⊥) → clean_from w r d k n ≡ false
    bits_fail e = sym (all_three_lem k n) ∙ rw (coded_faulty BitNotAllowed (bit_wrong r d) k n e)

    pub values_fail : (first_coded ValueBroken (value_wrong r d) k n ≡ 0 → ⊥) → clean_from w r d k n ≡ false
    values_fail e = sym (all_three_lem k n) ∙ rw (coded_faulty ValueBroken (value_wrong r d) k n e, and-false)

    pub ranges_decide : first_coded BitNotAllowed (bit_wrong r d) k n ≡ 0 → first_coded ValueBroken (value_wrong r d) k n ≡ 0
        → clean_from w r d k n ≡ free_from (range_wrong w r d) k n
    ranges_decide e f =
        sym (all_three_lem k n) ∙ rw (coded_free BitNotAllowed (bit_wrong r d) k n e, coded_free ValueBroken (value_wrong r d) k n f)

    -- what is clean has no first fault
    pub clean_bits : clean_from w r d k n ≡ true → first_coded BitNotAllowed (bit_wrong r d) k n ≡ 0
    clean_bits e = free_coded _ _ k n (and_left (free_from (bit_wrong r d) k n) _ (all_three_lem k n ∙ e))

    pub clean_values : clean_from w r d k n ≡ true → first_coded ValueBroken (value_wrong r d) k n ≡ 0
    clean_values e =
        free_coded _ _ k n (and_left (free_from (value_wrong r d) k n) _ (and_right (free_from (bit_wrong r d) k n) _ (all_three_lem k n
        ∙ e)))

    pub clean_ranges : clean_from w r d k n ≡ true → first_coded RangeOutside (range_wrong w r d) k n ≡ 0
    clean_ranges e =
        free_coded _ _ k n (and_right (free_from (value_wrong r d) k n) _ (and_right (free_from (bit_wrong r d) k n) _ (all_three_lem k n
        ∙ e)))
