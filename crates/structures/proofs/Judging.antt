-- 15, 16 and 17, tried in order.
-- Assumes nothing.
use Rattle.std.specs.Prelude.{Ok, Err, Option, Some, None}
use Prim.Native.Nat.{ℕ, ◌+◌, ◌<◌}
use mathlib.Core.Path.{◌≡◌, sym}
use mathlib.Core.Bool.{Bool, true, false}
use mathlib.Core.List.{[], ◌∷◌}
use native.Mathlib.Omega.{arith}
use Rattle.rules.specs.declared.Reason.TheVariants.{StructureNowhere, StructureBit, StructureValue}
use Rattle.rules.specs.Words.{first_of}
use Rattle.rules.specs.Refusals.{batch_window, fault, first_fault}
use Rattle.rules.specs.Structures.{Asked, layout_of, structure_bit_wrong, structure_value_wrong, nowhere, held_window, held_from}
use Rattle.rules.specs.Structures.{structure_nowhere, structure_bit, structure_value, structure_checks}
use Rattle.rules.proofs.Searching.{first_found}
use Rattle.rules.proofs.Trying.{all_pass, no_fault, fails_first, search_clear}

module _ (a : Asked) where
  -- what the two searches find
  abbrev pub bit_at : Option ℕ
  bit_at = first_of (structure_bit_wrong a.kind a.dwords) (layout_of a.kind).dwords

  abbrev pub value_at : Option ℕ
  value_at = first_of (structure_value_wrong a.kind a.dwords) (layout_of a.kind).dwords

  held_passes : nowhere a.held ≡ false → structure_nowhere a ≡ Ok tt
  unfolding structure_nowhere
  held_passes e = rw e

  bit_passes : bit_at ≡ None → structure_bit a ≡ Ok tt
  unfolding structure_bit
  bit_passes e = rw e

  pub not_held : nowhere a.held ≡ true → Err (fault StructureNowhere batch_window a.pointer) ≡ first_fault structure_checks a
  unfolding structure_nowhere structure_checks
  not_held e = fails_first [] structure_nowhere _ a tt (rw e)

  pub bit_wrong_lem : {k : ℕ} → nowhere a.held ≡ false → bit_at ≡ Some k
      → Err (fault StructureBit (held_window a.held) (held_from a.held + k)) ≡ first_fault structure_checks a
  unfolding structure_bit structure_checks
  bit_wrong_lem e b = fails_first (structure_nowhere ∷ []) structure_bit _ a (held_passes e, tt) (rw b)

  pub value_wrong_lem : {k : ℕ} → nowhere a.held ≡ false → bit_at ≡ None → value_at ≡ Some k
      → Err (fault StructureValue (held_window a.held) (held_from a.held + k)) ≡ first_fault structure_checks a
  unfolding structure_value structure_checks
  value_wrong_lem e b v = fails_first (structure_nowhere ∷ structure_bit ∷ []) structure_value _ a (held_passes e, (bit_passes b, tt)) (rw v)

  pub all_well : nowhere a.held ≡ false → bit_at ≡ None → value_at ≡ None → Ok tt ≡ first_fault structure_checks a
  unfolding structure_value structure_checks
  all_well e b v = sym (no_fault a structure_checks (held_passes e, (bit_passes b, (rw v, tt))))

  -- and a structure that passes breaks no value rule
  pub values_well : first_fault structure_checks a ≡ Ok tt → value_at ≡ None
  unfolding structure_value structure_checks
  values_well e = search_clear _ _ _ _ (all_pass a structure_checks e).1.1.0

-- a dword that a search finds is within what was searched
pub found_below : (bad : ℕ → Bool) (n : ℕ) {k : ℕ}
    → first_of bad n ≡ Some k → (start limit : ℕ) → start + n < limit → start + k < limit
found_below bad n e start limit h = omega (arith, (first_found bad 0 n e).below)
