-- Row 4: the store of four bytes or of eight, and the header that is neither.
-- Assumes nothing.
use Prim.Native.Nat.{ℕ, ◌/◌, ◌%◌, ◌^◌, ◌≤◌, ◌<◌}
use native.Mathlib.Omega.{arith}
use mathlib.Core.Path.{◌≡◌, refl, sym, ap, ◌∙◌}
use mathlib.Core.Bool.{Bool, true, false, cond, not, or-false}
use mathlib.Core.List.{List, [], ◌∷◌}
use lib.ListN.{get_or}
use lib.Bits.{bit_and, and_mod, and_le_r}
use lib.Dec.{eqb, lit≤}
use borrow.Author.Tests.{eqb-true, eqb-false, not-false}
use Rattle.rules.specs.declared.Windows.{Windows}
use Rattle.rules.specs.declared.Within.TheVariants.{ScratchOnly}
use Rattle.rules.specs.declared.Level.TheVariants.{First}
use Rattle.rules.specs.Words.{bit, allowed, in_group}
use Rattle.rules.specs.Windows.{fits}
use Rattle.rules.specs.Commands.{store_row, rows, the_row, row_of, group_size, length_of, length_right}
use Rattle.rules.specs.Uses.{uses_by_row, access_of, access_at, pair_address, address_at, canonical, used_high_of}
use Rattle.rules.specs.Masks.{masks_of, allowed_of, allowed_at, bit_wrong}
use Rattle.rules.specs.Values.{value_rules, rule_of, high_wrong, value_wrong_of, value_wrong}
use Rattle.rules.specs.Addresses.{range_wrong}
use Rattle.plain_shared.specs.Plain.{wrong_of, other_header}
use Rattle.plain_shared.proofs.Tests.{Test, answered, tested, content, Own}
use Rattle.rules.proofs.Used.{header_bits}
use Rattle.plain_shared.proofs.Headers.{not_between, other}
use Rattle.rules.proofs.Used.{any_dword_lem}

-- a header in this row that keeps its mask and whose field is right is one of the two
kept : (h : ℕ) → bit_and h 0x102000FF ≡ h → h % 2 ^ 21 ≤ 255
kept h e = omega (arith, ap (λ (x : ℕ). x % 2 ^ 21) e, and_mod h 0x102000FF 21, and_le_r (h % 2 ^ 21) (0x102000FF % 2 ^ 21))

two_headers : (h : ℕ) (b : Bool) → eqb (h / 2 ^ 21 % 2) 1 ≡ b → 0x10000000 ≤ h → h ≤ 0x102000FF → h % 2 ^ 21 ≤ 255
    → h % 256 ≡ cond b 3 2
    → (h ≡ 0x10000002 → ⊥) → (h ≡ 0x10200003 → ⊥) → ⊥
two_headers h true t low high in_field f n m = m (omega (arith, eqb-true (h / 2 ^ 21 % 2) 1 t))
two_headers h false t low high in_field f n m = n (omega (arith, eqb-false (h / 2 ^ 21 % 2) 1 t))

pub small_field : (b : Bool) {f : ℕ} → f ≡ cond b 3 2 → f < 256
small_field true e = omega arith
small_field false e = omega arith

pub other_store : (w : Windows) (rest : List ℕ) → row_of (get_or rest 0 0) ≡ store_row → (get_or rest 0 0 ≡ 0x10000002 → ⊥)
    → (get_or rest 0 0 ≡ 0x10200003 → ⊥)
    → (f : ℕ) → f ≡ cond (bit (get_or rest 0 0) 21) 3 2
    → other_header rest f ≡ wrong_of w store_row rest First
unfolding rows the_row length_right length_of allowed
other_store w rest q n m f t =
    other w store_row rest First f (ap (eqb (get_or rest 0 0 / 1 % 256)) (sym t)) refl
    (λ e. not_between store_row rest (lit≤ tt) q
    (λ b low high.
    let k = kept (get_or rest 0 0) (eqb-true _ _ (not-false _ (sym (header_bits store_row rest) ∙ b))) in
    two_headers (get_or rest 0 0) (bit (get_or rest 0 0) 21) refl low high k (e ∙ t) n m))

-- the tests of the two stores
abbrev pub four_tests : Windows → List ℕ → List Test
four_tests w d =
    (not (allowed (get_or d 1 0) 0xFFFFFFFC), 2561)
    ∷ (not (canonical (get_or d 2 0)), 3074)
    ∷ (not (fits w ScratchOnly (pair_address (get_or d 1 0) (get_or d 2 0)) 4), 3329)
    ∷ []

abbrev pub eight_tests : Windows → List ℕ → List Test
eight_tests w d =
    (not (allowed (get_or d 1 0) 0xFFFFFFFC), 2561)
    ∷ (not (eqb (get_or d 1 0 % 8) 0), 3073)
    ∷ (not (canonical (get_or d 2 0)), 3074)
    ∷ (not (fits w ScratchOnly (pair_address (get_or d 1 0) (get_or d 2 0)) 8), 3329)
    ∷ []

-- a store of n dwords, with this answer
abbrev pub Store : Windows → List ℕ → ℕ → ℕ → Type 0
Store w rest n answer = Own w store_row rest First n answer

module _ (w : Windows) (rest : List ℕ) (second : get_or rest 2 0 < 2 ^ 32) (third : get_or rest 3 0 < 2 ^ 32) where
  pub four_bytes : get_or rest 0 0 ≡ 0x10000002 → Store w rest 4 (answered (four_tests w rest) 0)
  unfolding content tested bit_wrong allowed allowed_at allowed_of masks_of rows the_row group_size in_group
      value_rules rule_of high_wrong value_wrong_of value_wrong length_right length_of uses_by_row access_of access_at used_high_of range_wrong address_at
  four_bytes e = record {
    right = rw e;
    long = rw e;
    same = rw (e, any_dword_lem _ second, any_dword_lem _ third, or-false (not (canonical (get_or rest 2 0))));
  }

  pub eight_bytes_lem : get_or rest 0 0 ≡ 0x10200003 → get_or rest 4 0 < 2 ^ 32 → Store w rest 5 (answered (eight_tests w rest) 0)
  unfolding content tested bit_wrong allowed allowed_at allowed_of masks_of rows the_row group_size in_group
      value_rules rule_of high_wrong value_wrong_of value_wrong length_right length_of uses_by_row access_of access_at used_high_of range_wrong address_at
  eight_bytes_lem e fourth = record {
    right = rw e;
    long = rw e;
    same = rw (e, any_dword_lem _ second, any_dword_lem _ third, any_dword_lem _ fourth, or-false (not (canonical (get_or rest 2 0))));
  }
