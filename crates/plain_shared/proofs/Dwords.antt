-- Laws of the dwords of a group: which dword of its group a dword is, and what 10 and 12 ask of it.
-- Assumes nothing.
use Prim.Native.Nat.{ℕ, ◌+◌, ◌-◌, ◌*◌, ◌/◌, ◌%◌, ◌^◌, ◌≤◌, ◌<◌}
use native.Mathlib.Nat.{mul-add-mod_self_right, mod-eq_of_lt, div-add-mod', add-zero}
use native.Mathlib.Omega.{arith}
use mathlib.Core.Path.{◌≡◌, refl, sym, ap, ◌∙◌}
use mathlib.Core.Bool.{Bool, true, false, not, ◌&&◌, ◌||◌, or-false}
use mathlib.Core.List.{List}
use lib.ListN.{get_or}
use borrow.Author.Tests.{ne_eqb, not-false}
use Rattle.rules.specs.Words.{allowed, field, in_group}
use Rattle.rules.specs.Commands.{spot, group_size}
use Rattle.rules.specs.Uses.{canonical, used_high_of}
use Rattle.rules.specs.Masks.{allowed_of, masks_of, allowed_at, bit_wrong}
use Rattle.rules.specs.Values.{rule_of, high_wrong, value_wrong_of, value_wrong}
use Rattle.rules.proofs.Used.{any_dword_lem, used_or_kept}
use Rattle.plain_shared.specs.Plain.{GroupAt}

-- the dword i of a group that starts at k
pub spot_in : (size k i : ℕ) {j : ℕ} → 1 ≤ k → (k - 1) % size ≡ 0 → i < size → j ≡ k + i → in_group size j ≡ i + 1
unfolding in_group
spot_in size k i {j} s g h q =
    let whole : (k - 1) / size * size ≡ k - 1 =
    sym (add-zero _) ∙ ap (λ (r : ℕ). (k - 1) / size * size + r) (sym g) ∙ div-add-mod' (k - 1) size in
    let e : j - 1 ≡ (k - 1) / size * size + i = omega (arith, whole) in
    rw (ne_eqb j 0 (λ z. omega arith), e, mul-add-mod_self_right ((k - 1) / size) size i, mod-eq_of_lt h) (omega arith)

-- "index (31:26)": the highest field of a dword
pub high_index : (x : ℕ) → x < 2 ^ 32 → 32 < x / 0x4000000 → 32 < field x 31 26
high_index x h l = omega arith

pub low_index : (x : ℕ) → x / 0x4000000 ≤ 32 → field x 31 26 ≤ 32
low_index x l = omega arith

-- a dword that is not the high dword of a used address
module _ (r : ℕ) (d : List ℕ) (k j : ℕ) (s : spot r k ≡ j) (u : used_high_of r d k j ≡ false) where
  pub bit_at : {m : ℕ} {b : Bool} → get_or (masks_of r) j 0 ≡ m → b ≡ allowed (get_or d k 0) m → bit_wrong r d k ≡ not b
  unfolding allowed_of allowed_at bit_wrong
  bit_at e f = rw (s, u, e) (ap not (sym f))

  pub free_at : get_or (masks_of r) j 0 ≡ 0xFFFFFFFF → get_or d k 0 < 2 ^ 32 → bit_wrong r d k ≡ false
  free_at e h = bit_at e (sym (any_dword_lem _ h))

  pub value_at_lem : value_wrong r d k ≡ rule_of r d k j (get_or d k 0)
  unfolding high_wrong value_wrong_of value_wrong
  value_at_lem = rw (s, u)

  pub kept_at : {m : ℕ} → get_or (masks_of r) j 0 ≡ m → bit_wrong r d k ≡ false → allowed (get_or d k 0) m ≡ true
  kept_at e f = not-false _ (sym (bit_at e refl) ∙ f)

-- a high dword: where its address is used 12 looks at it, and else 10
module _ (r : ℕ) (d : List ℕ) (k j : ℕ) (s : spot r k ≡ j) where
  pub high_bit_at : get_or (masks_of r) j 0 ≡ 0xFFFF → get_or d k 0 < 2 ^ 32 → bit_wrong r d k ≡ not (used_high_of r d k j || allowed (get_or d k 0) 0xFFFF)
  unfolding allowed_of allowed_at bit_wrong
  high_bit_at e h = rw (s, e) (ap not (used_or_kept (used_high_of r d k j) _ 0xFFFF h))

  pub high_value_at : rule_of r d k j (get_or d k 0) ≡ false → value_wrong r d k ≡ (used_high_of r d k j && not (canonical (get_or d k 0)))
  unfolding high_wrong value_wrong_of value_wrong
  high_value_at e = rw (s, e) (or-false _)

-- by the group that the dword stands in
module _ (r : ℕ) {size : ℕ} (of_size : group_size r ≡ size) (d : List ℕ) (k : ℕ) (g : GroupAt size d k) (i : ℕ) {j : ℕ} (h : i < size)
    (q : j ≡ k + i) where
  in_group_lem : spot r j ≡ i + 1
  in_group_lem = ap (λ (n : ℕ). in_group n j) of_size ∙ spot_in size k i g.0 g.2 h q

  module _ (u : used_high_of r d j (i + 1) ≡ false) where
    pub bit_in : {m : ℕ} → get_or (masks_of r) (i + 1) 0 ≡ m → bit_wrong r d j ≡ not (allowed (get_or d j 0) m)
    bit_in e = bit_at r d j (i + 1) in_group_lem u e refl

    pub free_in : get_or (masks_of r) (i + 1) 0 ≡ 0xFFFFFFFF → get_or d j 0 < 2 ^ 32 → bit_wrong r d j ≡ false
    free_in e l = free_at r d j (i + 1) in_group_lem u e l

    pub value_in : value_wrong r d j ≡ rule_of r d j (i + 1) (get_or d j 0)
    value_in = value_at_lem r d j (i + 1) in_group_lem u

  pub high_bit_in : get_or (masks_of r) (i + 1) 0 ≡ 0xFFFF → get_or d j 0 < 2 ^ 32
      → bit_wrong r d j ≡ not (used_high_of r d j (i + 1) || allowed (get_or d j 0) 0xFFFF)
  high_bit_in e l = high_bit_at r d j (i + 1) in_group_lem e l

  pub high_value_in : rule_of r d j (i + 1) (get_or d j 0) ≡ false
      → value_wrong r d j ≡ (used_high_of r d j (i + 1) && not (canonical (get_or d j 0)))
  high_value_in e = high_value_at r d j (i + 1) in_group_lem e
