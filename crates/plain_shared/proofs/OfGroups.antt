-- Laws of a command of groups, for any row that has them: its header refuses, or its field counts whole groups, which are left to say the rest.
-- Assumes nothing.
use Prim.Native.Nat.{ℕ, ◌+◌, ◌-◌, ◌*◌, ◌%◌, ◌≤◌, ◌<◌}
use native.Mathlib.Omega.{arith}
use mathlib.Core.Path.{◌≡◌, refl, sym, ap, ◌∙◌}
use mathlib.Core.Bool.{true, false}
use mathlib.Core.List.{List}
use lib.ListN.{length, get_or, take}
use lib.Seq.{length-take-le, get_or-take}
use lib.Dec.{eqb, ltb}
use borrow.Author.Tests.{eqb-true, eqb-false, ltb-false}
use Rattle.rules.specs.declared.Level.{Level}
use Rattle.rules.specs.declared.Windows.{Windows}
use Rattle.rules.specs.Words.{field}
use Rattle.rules.specs.Commands.{the_row, groups, group_size, field_right, length_of, length_right, row_count, row_of}
use Rattle.rules.specs.Masks.{header_mask, bit_wrong}
use Rattle.rules.proofs.Searching.{and_left}
use Rattle.looks.specs.Looks.{content_of}
use Rattle.plain_shared.specs.Plain.{coded, wrong_of, groups_header, Groups}
use Rattle.plain_shared.proofs.Lengths.{field_is, content_says}
use Rattle.rules.proofs.Used.{header_bits}
use Rattle.plain_shared.proofs.Headers.{not_between, key_and_field, head_refuses, head_passes}

-- a row of at most `most` groups of `size` dwords each, whose header is its key, 256 * m, and its field
pub record GroupRow (r size most m : ℕ) : Type 0 where
  pub total : (the_row r).total ≡ groups most
  pub of_size : group_size r ≡ size
  pub key : (the_row r).key ≡ 256 * m
  pub mask : header_mask (the_row r) ≡ 256 * m + 0xFF
  pub known : r < row_count

-- the command's own n dwords are whole groups behind a header that is right, and they say what is wrong with it
pub record OwnGroups (w : Windows) (r size : ℕ) (rest : List ℕ) (level : Level) (n : ℕ) : Type 0 where
  pub long : n ≡ length (take n rest)
  pub right : Groups size (take n rest) × (bit_wrong r (take n rest) 0 ≡ false)
  pub says : {x : ℕ} → x ≡ coded (content_of w r (take n rest) 0 level) → x ≡ wrong_of w r rest level

module _ {r size most m : ℕ} (g : GroupRow r size most m) (w : Windows) (rest : List ℕ) (level : Level) {x : ℕ}
    (e : x ≡ groups_header rest (256 * m) size most) where
  right_is : length_right r (get_or rest 0 0) ≡ field_right (groups most) size (get_or rest 0 0)
  unfolding length_right
  right_is = rw (g.total, g.of_size)

  long : length_of r (get_or rest 0 0) ≡ get_or rest 0 0 % 256 + 2
  unfolding length_of
  long = rw (g.total, field_is (get_or rest 0 0))

  pub groups_refuse : row_of (get_or rest 0 0) ≡ r → (x ≡ 0 → ⊥) → x ≡ wrong_of w r rest level
  unfolding groups_header
  groups_refuse row n =
      e
      ∙ head_refuses w r rest level (get_or rest 0 0 % 256 + 2) (field_right (groups most) size (get_or rest 0 0))
      (ltb (length rest) (get_or rest 0 0 % 256 + 2)) (eqb (get_or rest 0 0 - get_or rest 0 0 % 256) (256 * m)) right_is (λ t. long) (omega arith) refl
      (λ t k. not_between r rest g.known row (λ b low high. eqb-false (get_or rest 0 0 - get_or rest 0 0 % 256) (256 * m) k (omega (arith, g.key, g.mask)))) (λ z. n (e ∙ z))

  module _ (z : x ≡ 0) where
    field_right_lem : field_right (groups most) size (get_or rest 0 0) ≡ true
    unfolding groups_header
    field_right_lem = (head_passes _ _ _ (sym e ∙ z)).0

    own_fits : get_or rest 0 0 % 256 + 2 ≤ length rest
    unfolding groups_header
    own_fits = ltb-false _ _ (head_passes _ _ _ (sym e ∙ z)).1

    key_is : get_or rest 0 0 - get_or rest 0 0 % 256 ≡ 256 * m
    unfolding groups_header
    key_is = eqb-true _ _ (head_passes _ _ _ (sym e ∙ z)).2

    pub own_groups : {n : ℕ} → n ≡ field (get_or rest 0 0) 7 0 + 2 → OwnGroups w r size rest level n
    own_groups {n} l =
        let counted : n ≡ get_or rest 0 0 % 256 + 2 = l ∙ ap (λ (f : ℕ). f + 2) (field_is _) in
        let fits : n ≤ length rest = omega (arith, own_fits) in
        let dwords = length-take-le n rest fits in
        let behind : length (take n rest) - 1 ≡ field (get_or rest 0 0) 7 0 + 1 = omega (arith, dwords, l) in
        record {
          long = sym dwords;
          right = (
            (omega (arith, dwords), ap (λ (i : ℕ). i % size) behind ∙ eqb-true _ _ (and_left (eqb ((field (get_or rest 0 0) 7 0 + 1) % size) 0) _ field_right_lem)),
            header_bits r _ ∙ rw (get_or-take n rest 0 0 (omega arith), g.mask, key_and_field (get_or rest 0 0) m key_is),
          );
          says = λ q. q ∙ content_says w r rest level (right_is ∙ field_right_lem) (long ∙ sym counted) fits;
        }
