-- The range of a vertex buffer: it has one address at most, whose low dword is its second.
-- Assumes nothing.
use Prim.Native.Nat.{ℕ, ◌+◌, ◌-◌, ◌/◌, ◌%◌, ◌^◌, ◌<◌}
use native.Mathlib.Nat.{div-div-eq-div-mul}
use native.Mathlib.Omega.{arith}
use mathlib.Core.Path.{◌≡◌, refl, sym, ap, ◌∙◌}
use mathlib.Core.Bool.{true, false, cond, not, ◌&&◌, and-false}
use mathlib.Core.List.{List}
use mathlib.Core.Logic.{⊎_elim}
use lib.ListN.{get_or}
use borrow.Author.Tests.{eqb-true, eqb-false, eq-eqb, ne_eqb}
use Rattle.rules.specs.declared.Access.{Access}
use Rattle.rules.specs.declared.Access.TheVariants.{Unused, Reaches, NoRange}
use Rattle.rules.specs.declared.Reason.TheVariants.{RangeOutside}
use Rattle.rules.specs.declared.Windows.{Windows}
use Rattle.rules.specs.Words.{bit}
use Rattle.rules.specs.Commands.{vertex_buffers_row, rows, the_row, group_size}
use Rattle.rules.specs.Uses.{pair_address, sized, uses_by_row, access_of, address_at, access_at, is_used, used_high_of}
use Rattle.rules.specs.Refusals.{number_of}
use Rattle.rules.specs.Addresses.{access_wrong, range_wrong}
use Rattle.rules.proofs.Searching.{either, never_both}
use Rattle.plain_shared.specs.Plain.{first_coded, free_from, GroupAt}
use Rattle.plain_shared.proofs.Coding.{found_at, passed_at, none_left}
use Rattle.plain_shared.proofs.Cleanness.{coded_free, coded_faulty}
use Rattle.plain_shared.proofs.Dwords.{spot_in}

-- "bit 13 clear, bit 14 set", as one field
pub with_address : (x : ℕ) → x / 0x2000 % 4 ≡ 2 → (not (bit x 13) && bit x 14) ≡ true
with_address x e =
    let a : (x / 2 ^ 13 % 2 ≡ 1 → ⊥) = λ z. omega arith in
    let b : x / 2 ^ 14 % 2 ≡ 1 = omega arith in
    rw (ne_eqb _ _ a, eq-eqb _ _ b)

pub without_address : (x : ℕ) → (x / 0x2000 % 4 ≡ 2 → ⊥) → (not (bit x 13) && bit x 14) ≡ false
without_address x n =
    ⊎_elim (λ p. rw p)
    (λ p. ⊎_elim (λ q. absurd (n (both x
    (not_one x p) (eqb-true _ _ q)))) (λ q. ap (λ t. not (bit x 13) && t) q ∙ and-false (not (bit x 13))) (either (bit x 14)))
    (either (bit x 13))
  where
    not_one : (x : ℕ) → bit x 13 ≡ false → x / 2 ^ 13 % 2 ≡ 0
    not_one x p = let q : (x / 2 ^ 13 % 2 ≡ 1 → ⊥) = eqb-false _ _ p in omega arith

    in_two : (y : ℕ) → y % 2 ≡ 0 → y / 2 % 2 ≡ 1 → y % 4 ≡ 2
    in_two y a b = omega arith

    both : (x : ℕ) → x / 2 ^ 13 % 2 ≡ 0 → x / 2 ^ 14 % 2 ≡ 1 → x / 0x2000 % 4 ≡ 2
    both x a b =
        let q : x / 2 ^ 13 / 2 ≡ x / 2 ^ 14 = div-div-eq-div-mul x (2 ^ 13) 2 in
        in_two (x / 2 ^ 13) a (ap (λ (n : ℕ). n % 2) q ∙ b)

-- whether its address is used, by its flags and its size
pub used_is : (d : List ℕ) (k : ℕ) {a : Access} → cond (not (bit (get_or d k 0) 13) && bit (get_or d k 0) 14) (sized (get_or d (k + 3) 0)) Unused ≡ a
    → used_high_of vertex_buffers_row d (k + 2) 3 ≡ is_used a
unfolding uses_by_row access_of used_high_of
used_is d k e =
    let p : k + 2 - 1 - 1 ≡ k = omega arith in
    let q : k + 2 - 1 + 2 ≡ k + 3 = omega arith in
    rw (p, q, e)

module _ (w : Windows) (d : List ℕ) (k : ℕ) (g : GroupAt 4 d k) where
  -- the access of its second dword
  pub range_is : {a : Access} → cond (not (bit (get_or d k 0) 13) && bit (get_or d k 0) 14) (sized (get_or d (k + 3) 0)) Unused ≡ a
      → range_wrong w vertex_buffers_row d (k + 1) ≡ access_wrong w (pair_address (get_or d (k + 1) 0) (get_or d (k + 2) 0)) a
  unfolding rows the_row group_size uses_by_row access_of access_at address_at range_wrong
  range_is e =
      let p : k + 1 - 1 ≡ k = omega arith in
      let q : k + 1 + 2 ≡ k + 3 = omega arith in
      let s : k + 1 + 1 ≡ k + 2 = omega arith in
      let at = spot_in 4 k 1 g.0 g.2 (omega arith) refl in
      rw (at, p, q, s, e)

  -- of an address that is not used none is asked
  pub unused_fits : used_high_of vertex_buffers_row d (k + 2) 3 ≡ false → range_wrong w vertex_buffers_row d (k + 1) ≡ false
  unused_fits e =
      let own = cond (not (bit (get_or d k 0) 13) && bit (get_or d k 0) 14) (sized (get_or d (k + 3) 0)) Unused in
      range_is {a = own} refl ∙ none own (sym (used_is d k {a = own} refl) ∙ e)
    where
      none : (a : Access) → is_used a ≡ false → access_wrong w (pair_address (get_or d (k + 1) 0) (get_or d (k + 2) 0)) a ≡ false
      none Unused e = refl
      none (Reaches bytes allowed) e = absurd (never_both refl e)
      none NoRange e = refl

  -- the others have none
  quiet : (i j : ℕ) → i < 4 → j ≡ i + 1 → access_of vertex_buffers_row d (k + i) j (get_or d (k + i) 0) ≡ Unused
      → range_wrong w vertex_buffers_row d (k + i) ≡ false
  unfolding rows the_row group_size access_at range_wrong
  quiet i j h q e = rw (spot_in 4 k i g.0 g.2 h refl, ← q, e)

  first_quiet : range_wrong w vertex_buffers_row d k ≡ false
  unfolding uses_by_row access_of
  first_quiet = let p : k ≡ k + 0 = omega arith in ap (range_wrong w vertex_buffers_row d) p ∙ quiet 0 1 (omega arith) refl refl

  pub range_fails : range_wrong w vertex_buffers_row d (k + 1) ≡ true → first_coded RangeOutside (range_wrong w vertex_buffers_row d) k 4 ≡ 3328 + (k + 1)
  unfolding number_of
  range_fails e = passed_at _ _ k 3 refl first_quiet ∙ found_at _ _ (k + 1) 2 refl e

  pub range_fits : range_wrong w vertex_buffers_row d (k + 1) ≡ false → first_coded RangeOutside (range_wrong w vertex_buffers_row d) k 4 ≡ 0
  unfolding uses_by_row access_of
  range_fits e =
      passed_at _ _ k 3 refl first_quiet
      ∙ passed_at _ _ (k + 1) 2 refl e
      ∙ passed_at _ _ (k + 1 + 1) 1 (omega arith) (quiet 2 3 (omega arith) refl refl)
      ∙ passed_at _ _ (k + 1 + 1 + 1) 0 (omega arith) (quiet 3 4 (omega arith) refl refl)
      ∙ none_left _ _ (k + 1 + 1 + 1 + 1)

  pub range_decides : free_from (range_wrong w vertex_buffers_row d) k 4 ≡ not (range_wrong w vertex_buffers_row d (k + 1))
  range_decides =
      ⊎_elim
      (λ p. coded_faulty RangeOutside _ k 4 (λ z. let q = sym (range_fails p) ∙ z in omega arith) ∙ rw p)
      (λ p. coded_free RangeOutside _ k 4 (range_fits p) ∙ rw p) (either (range_wrong w vertex_buffers_row d (k + 1)))
