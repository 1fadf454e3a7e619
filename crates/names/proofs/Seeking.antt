-- The end of a name by the place of the first ending byte.
-- Assumes nothing.
use Prim.Native.Nat.{ℕ, suc, ◌+◌, ◌≤◌}
use native.Mathlib.Omega.{arith}
use mathlib.Core.Path.{◌≡◌, refl, ◌∙◌}
use mathlib.Core.Bool.{Bool, true, false, cond, not}
use mathlib.Core.List.{List, [], ◌∷◌}
use lib.ListN.{length, drop, length-drop}
use lib.Dec.{eqb}
use borrow.Author.Tests.{ltb-false}
use Rattle.std.specs.List.{position, position_or_len}
use Rattle.std.proofs.Common.{None, Some}
use Rattle.names.specs.Entries.{name_length, NameEnd}

abbrev ends : ℕ → ℕ → Bool
ends ending byte = eqb byte ending

length_is : (bytes : List ℕ) (ending : ℕ) → name_length bytes ending ≡ position_or_len (λ (byte : ℕ). eqb byte ending) bytes
unfolding name_length
length_is [] ending = refl
length_is (byte ∷ rest) ending = rw (length_is rest ending) (by (eqb byte ending) _)
  where
    by : (b : Bool) (n : ℕ) → cond b 0 (suc n) ≡ cond (not b) (1 + n) 0
    by true n = refl
    by false n = omega arith

within : (bytes : List ℕ) (ending : ℕ) → name_length bytes ending ≤ length bytes
unfolding name_length
within [] ending = omega arith
within (byte ∷ rest) ending = by (eqb byte ending) (within rest ending)
  where
    by : (b : Bool) → name_length rest ending ≤ length rest → cond b 0 (suc (name_length rest ending)) ≤ suc (length rest)
    by true h = omega arith
    by false h = omega arith

at_some : (b : Bool) (p n : ℕ) → cond b (Some p) None ≡ Some n → p ≡ n
at_some true p n e = cc
at_some false p n e = cc

at_none : (b : Bool) (p : ℕ) → cond b (Some p) None ≡ None → b ≡ false
at_none true p e = cc
at_none false p e = refl

module _ (bytes : List ℕ) (from ending : ℕ) (h : from ≤ length bytes) where
  pub ends_there : (n : ℕ) → position (λ (byte : ℕ). eqb byte ending) (drop from bytes) ≡ Some n → NameEnd bytes from ending (from + n)
  ends_there n e =
      let len = length_is (drop from bytes) ending ∙ at_some _ _ n e in
      record { is = omega (arith, len); within = omega (arith, len, within (drop from bytes) ending, length-drop from bytes) }

  pub ends_nowhere : position (λ (byte : ℕ). eqb byte ending) (drop from bytes) ≡ None → NameEnd bytes from ending (length bytes)
  ends_nowhere e =
      let far = ltb-false _ _ (at_none _ _ e) in
      record {
        is = omega (arith, far, length_is (drop from bytes) ending, within (drop from bytes) ending, length-drop from bytes);
        within = omega arith;
      }
