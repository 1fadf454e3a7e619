-- Laws of answers as one number, 0 being "nothing": one verdict, two behind each other, and the first dword that a test finds.
-- Assumes nothing.
use Rattle.std.specs.Prelude.{Ok, Err, Option, Some, None}
use Prim.Native.Nat.{ℕ, zero, suc, ◌+◌, ◌*◌, ◌≤◌, ◌<◌}
use native.Mathlib.Omega.{arith}
use mathlib.Core.Path.{◌≡◌, refl, ap, ◌∙◌}
use mathlib.Core.Bool.{Bool, true, false}
use Rattle.rules.specs.declared.Reason.{Reason}
use Rattle.rules.specs.Refusals.{Verdict}
use Rattle.rules.specs.Words.{first_from}
use Rattle.rules.specs.Refusals.{batch_window, number_of, refuse_found}
use Rattle.rules.proofs.Searching.{search_passes, search_stops, none_found}
use Rattle.rules.proofs.Unique.{above_zero}
use Rattle.looks.specs.Looks.{or_else}
use Rattle.plain_shared.specs.Plain.{coded, first_coded}

-- 0 exactly where the verdict passes
pub coded_passes : (v : Verdict) → coded v ≡ 0 → v ≡ Ok tt
unfolding coded
coded_passes (Ok _) e = refl
coded_passes (Err f) e = absurd (let h = above_zero f.reason in omega arith)

-- the first of two verdicts where it is not 0, and else the second
pub first_says : (u v : Verdict) → (coded u ≡ 0 → ⊥) → coded (or_else u v) ≡ coded u
unfolding coded
first_says (Ok _) v n = absurd (n refl)
first_says (Err f) v n = refl

pub second_says : (u v : Verdict) → coded u ≡ 0 → coded (or_else u v) ≡ coded v
second_says u v e = ap (λ (u : Verdict). coded (or_else u v)) (coded_passes u e)

-- a verdict behind which nothing is found
pub alone : (v : Verdict) → coded v ≡ coded (or_else v (Ok tt))
alone (Ok _) = refl
alone (Err f) = refl

-- the first of the dwords from k on: it is the dword k, or it is looked for behind it
module _ (reason : Reason) (bad : ℕ → Bool) where
  pub is_first : (k n : ℕ) → bad k ≡ true → first_coded reason bad k (suc n) ≡ 256 * number_of reason + k
  unfolding coded
  is_first k n e = ap (λ (f : Option ℕ). coded (refuse_found reason batch_window 0 f)) (search_stops bad k n e) ∙ (omega arith)

  pub not_first : (k n : ℕ) → bad k ≡ false → first_coded reason bad k (suc n) ≡ first_coded reason bad (k + 1) n
  not_first k n e = ap (λ (f : Option ℕ). coded (refuse_found reason batch_window 0 f)) (search_passes bad k n e)

  pub none_left : (k : ℕ) → first_coded reason bad k 0 ≡ 0
  unfolding coded first_from
  none_left k = refl

  pub coded_nothing : (k n : ℕ) → first_coded reason bad k n ≡ 0 → first_from bad k n ≡ None
  coded_nothing k n e = by_case (first_from bad k n) (coded_passes _ e)
    where
      by_case : (f : Option ℕ) → refuse_found reason batch_window 0 f ≡ Ok tt → f ≡ None
      by_case None e = refl
      by_case (Some i) e = absurd (let z : ◌≡◌ {A = ℕ} 0 1 = cc in omega arith)

  -- the same with the dword's number in another form
  pub found_at : (k n : ℕ) {p : ℕ} → k ≡ p → bad p ≡ true → first_coded reason bad k (suc n) ≡ 256 * number_of reason + p
  found_at k n q e = is_first k n (ap bad q ∙ e) ∙ ap (λ (i : ℕ). 256 * number_of reason + i) q

  pub passed_at : (k n : ℕ) {p : ℕ} → k ≡ p → bad p ≡ false → first_coded reason bad k (suc n) ≡ first_coded reason bad (k + 1) n
  passed_at k n q e = not_first k n (ap bad q ∙ e)

  -- where there is no first, no dword of them is one
  pub no_fault : (k n : ℕ) → first_coded reason bad k n ≡ 0 → (i : ℕ) → k ≤ i → i < k + n → bad i ≡ false
  no_fault k n e = none_found bad k n (coded_nothing k n e)

  pub no_first : (k n : ℕ) → ((i : ℕ) → k ≤ i → i < k + n → bad i ≡ false) → first_coded reason bad k n ≡ 0
  no_first k zero h = none_left k
  no_first k (suc n) h = not_first k n (h k (omega arith) (omega arith)) ∙ no_first (k + 1) n (λ i a b. h i (omega arith) (omega arith))

  -- nor is one of a part of them
  pub part_passes : (k n j m : ℕ) → k ≤ j → j + m ≤ k + n → first_coded reason bad k n ≡ 0 → first_coded reason bad j m ≡ 0
  part_passes k n j m h l e = no_first j m (λ i a b. no_fault k n e i (omega arith) (omega arith))
