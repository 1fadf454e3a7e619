-- 17 of a blend state: which dword breaks its rule.
-- Assumes nothing.
use Prim.Native.Nat.{ℕ, ◌+◌, ◌-◌, ◌%◌, ◌<◌}
use mathlib.Core.Path.{◌≡◌, refl, ◌∙◌}
use mathlib.Core.Bool.{Bool, false}
use mathlib.Core.List.{List}
use native.Mathlib.Omega.{arith}
use borrow.Author.Tests.{ne_eqb}
use lib.ListN.{get_or}
use Rattle.rules.specs.Words.{first_from, first_of, in_group}
use Rattle.rules.specs.Structures.{entry_wrong, blend_wrong}
use Rattle.words.proofs.Loops.{goes_on}

-- where one dword leads and pairs follow, the first of a pair has an odd number
first_of_pair : (k : ℕ) → k % 2 ≡ 1 → in_group 2 k ≡ 1
unfolding in_group
first_of_pair k h =
    let r : (k - 1) % 2 ≡ 0 = omega arith in
    rw (ne_eqb k 0 (λ e. omega arith), r)

second_of_pair : (k : ℕ) → k % 2 ≡ 1 → in_group 2 (k + 1) ≡ 2
unfolding in_group
second_of_pair k h =
    let r : (k + 1 - 1) % 2 ≡ 1 = omega arith in
    rw (ne_eqb (k + 1) 0 (λ e. omega arith), r)

module _ (d : List ℕ) where
  pub from_one : first_of (blend_wrong d) 17 ≡ first_from (blend_wrong d) 1 16
  unfolding first_from in_group blend_wrong
  from_one = refl

  pub entry_at : (k : ℕ) {w : ℕ} {t : Bool} → k % 2 ≡ 1 → w ≡ get_or d k 0 → t ≡ entry_wrong w → blend_wrong d k ≡ t
  unfolding blend_wrong
  entry_at k h e f = rw (first_of_pair k h, ← e, ← f)

  second : (k : ℕ) → k % 2 ≡ 1 → blend_wrong d (k + 1) ≡ false
  unfolding blend_wrong
  second k h = rw (second_of_pair k h)

  -- an entry that keeps the rule is passed with both its dwords
  pub entry_passed : (k : ℕ) → k % 2 ≡ 1 → k < 17 → blend_wrong d k ≡ false
      → first_from (blend_wrong d) k (17 - k) ≡ first_from (blend_wrong d) (k + 2) (17 - (k + 2))
  entry_passed k h l e =
      let n : k + 1 < 17 = omega arith in
      let q : k + 1 + 1 ≡ k + 2 = omega arith in
      goes_on (blend_wrong d) 17 k l e ∙ rw (← q) (goes_on (blend_wrong d) 17 (k + 1) n (second k h))
