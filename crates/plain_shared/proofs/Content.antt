-- Laws of 10 to 13 of a command: its header first, and then what its other dwords say, each check only where those before it pass.
-- Assumes nothing.
use Prim.Native.Nat.{ℕ, suc, ◌-◌, ◌<◌}
use native.Mathlib.Omega.{arith}
use mathlib.Core.Path.{◌≡◌, sym, ap, ◌∙◌}
use mathlib.Core.Bool.{Bool, true, false}
use mathlib.Core.List.{List}
use lib.ListN.{length}
use Rattle.rules.specs.declared.Level.{Level}
use Rattle.rules.specs.declared.Reason.{Reason}
use Rattle.rules.specs.declared.Reason.TheVariants.{BitNotAllowed, ValueBroken, RangeOutside}
use Rattle.rules.specs.declared.Windows.{Windows}
use Rattle.rules.specs.Words.{first_from}
use Rattle.rules.specs.Refusals.{batch_window, refuse_found, number_of}
use Rattle.rules.specs.Masks.{bit_wrong}
use Rattle.rules.specs.Values.{value_wrong}
use Rattle.rules.specs.Addresses.{range_wrong}
use Rattle.looks.specs.Looks.{or_else, content_of}
use Rattle.plain_shared.specs.Plain.{coded, first_coded, first_by, clean_from, HeaderRight}
use Rattle.plain_shared.proofs.Coding.{first_says, second_says, is_first, not_first}
use Rattle.plain_shared.proofs.Cleanness.{clean_bits, clean_values, clean_ranges}

-- a header with a wrong bit
pub header_says : (w : Windows) (r : ℕ) (d : List ℕ) (level : Level) → 0 < length d → bit_wrong r d 0 ≡ true
    → coded (content_of w r d 0 level) ≡ 2560
unfolding content_of number_of
header_says w r d level l e =
    let n : length d ≡ suc (length d - 1) = omega arith in
    let h : first_coded BitNotAllowed (bit_wrong r d) 0 (length d) ≡ 2560 =
    ap (first_coded BitNotAllowed (bit_wrong r d) 0) n ∙ is_first BitNotAllowed (bit_wrong r d) 0 (length d - 1) e in
    first_says _ _ (λ z. let q = sym h ∙ z in omega arith) ∙ h

module _ {w : Windows} {r : ℕ} {d : List ℕ} {level : Level} (h : HeaderRight w r d level) where
  behind : (reason : Reason) (bad : ℕ → Bool) → bad 0 ≡ false
      → first_coded reason bad 0 (length d) ≡ first_coded reason bad 1 (length d - 1)
  behind reason bad e =
      let n : length d ≡ suc (length d - 1) = omega (arith, h.some) in
      ap (first_coded reason bad 0) n ∙ not_first reason bad 0 (length d - 1) e

  -- 10 of some dword
  bit_says : (first_coded BitNotAllowed (bit_wrong r d) 1 (length d - 1) ≡ 0 → ⊥)
      → coded (content_of w r d 0 level) ≡ first_coded BitNotAllowed (bit_wrong r d) 1 (length d - 1)
  unfolding content_of
  bit_says n =
      let b = behind BitNotAllowed (bit_wrong r d) h.bits in
      first_says _ _ (λ z. n (sym b ∙ z)) ∙ b

  module _ (e : first_coded BitNotAllowed (bit_wrong r d) 1 (length d - 1) ≡ 0) where
    values_on : coded (content_of w r d 0 level)
        ≡ coded (or_else (refuse_found ValueBroken batch_window 0 (first_from (value_wrong r d) 0 (length d)))
        (refuse_found RangeOutside batch_window 0 (first_from (range_wrong w r d) 0 (length d))))
    unfolding content_of
    values_on = second_says _ _ (behind BitNotAllowed (bit_wrong r d) h.bits ∙ e) ∙ rw h.quiet

    -- 12 of some dword
    value_says : (first_coded ValueBroken (value_wrong r d) 1 (length d - 1) ≡ 0 → ⊥)
        → coded (content_of w r d 0 level) ≡ first_coded ValueBroken (value_wrong r d) 1 (length d - 1)
    value_says n =
        let b = behind ValueBroken (value_wrong r d) h.value in
        values_on ∙ first_says _ _ (λ z. n (sym b ∙ z)) ∙ b

    -- and else 13
    range_says : first_coded ValueBroken (value_wrong r d) 1 (length d - 1) ≡ 0
        → coded (content_of w r d 0 level) ≡ first_coded RangeOutside (range_wrong w r d) 1 (length d - 1)
    range_says f =
        values_on
        ∙ second_says _ _ (behind ValueBroken (value_wrong r d) h.value ∙ f)
        ∙ behind RangeOutside (range_wrong w r d) h.range

  -- the same of what the code has asked of the groups: nothing is wrong with them, or the first 10, the first 12, the first 13
  pub all_clean : {x : Bool} → x ≡ clean_from w r d 1 (length d - 1) → x ≡ true → 0 ≡ coded (content_of w r d 0 level)
  all_clean e z =
      let clean = sym e ∙ z in
      sym (range_says (clean_bits w r d 1 _ clean) (clean_values w r d 1 _ clean) ∙ clean_ranges w r d 1 _ clean)

  module _ {x : ℕ} (e : x ≡ first_by w r d BitNotAllowed 1 (length d - 1)) where
    pub bit_first : (x ≡ 0 → ⊥) → x ≡ coded (content_of w r d 0 level)
    unfolding first_by
    bit_first n = e ∙ sym (bit_says (λ z. n (e ∙ z)))

    module _ (z : x ≡ 0) {y : ℕ} (f : y ≡ first_by w r d ValueBroken 1 (length d - 1)) where
      pub value_first : (y ≡ 0 → ⊥) → y ≡ coded (content_of w r d 0 level)
      unfolding first_by
      value_first n = f ∙ sym (value_says (sym e ∙ z) (λ q. n (f ∙ q)))

      pub range_last : y ≡ 0 → {v : ℕ} → v ≡ first_by w r d RangeOutside 1 (length d - 1) → v ≡ coded (content_of w r d 0 level)
      unfolding first_by
      range_last q g = g ∙ sym (range_says (sym e ∙ z) (sym f ∙ q))
