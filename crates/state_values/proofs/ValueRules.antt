-- 17: which dword of a structure breaks a value rule.
-- Assumes nothing.
use Rattle.std.specs.Prelude.{None}
use Prim.Native.Nat.{ℕ, ◌≤◌, ◌<◌}
use mathlib.Core.Path.{◌≡◌, refl, sym, ◌∙◌}
use mathlib.Core.Bool.{Bool, false}
use mathlib.Core.List.{List, [], ◌∷◌}
use native.Mathlib.Omega.{arith}
use borrow.Author.Tests.{le-leb}
use lib.ListN.{get_or}
use Rattle.rules.specs.declared.Kind.{Kind}
use Rattle.rules.specs.declared.Kind.TheVariants.{Viewport, ColourCalc}
use Rattle.rules.specs.Words.{first_from, first_of}
use Rattle.rules.specs.Structures.{layout_of, is_nan, depth_wrong, colour_wrong, structure_value_wrong}
use Rattle.rules.proofs.Searching.{none_found, some_left}

module _ (d : List ℕ) where
  -- the first two dwords of a viewport are its depths
  pub two_depths : {low high : ℕ} → low ≡ get_or d 0 0 → high ≡ get_or d 1 0
      → first_of (depth_wrong (low ∷ high ∷ [])) 2 ≡ first_of (structure_value_wrong Viewport d) 2
  unfolding first_from depth_wrong structure_value_wrong
  two_depths e f = rw (e, f)

  pub from_two : first_of (colour_wrong d) 6 ≡ first_from (colour_wrong d) 2 4
  unfolding first_from colour_wrong
  from_two = refl

  pub colour_at : (k : ℕ) {w : ℕ} {t : Bool} → 2 ≤ k → w ≡ get_or d k 0 → t ≡ is_nan w → colour_wrong d k ≡ t
  unfolding colour_wrong
  colour_at k h e f = simp (le-leb 2 k h, sym e, sym f)

  -- where no dword breaks a value rule, none of the values is a NaN
  pub depth_no_nan : (k : ℕ) {kind : Kind} → k < 2 → kind ≡ Viewport
      → first_of (structure_value_wrong kind d) (layout_of kind).dwords ≡ None → is_nan (get_or d k 0) ≡ false
  unfolding layout_of depth_wrong structure_value_wrong
  depth_no_nan k h v e =
      some_left (is_nan (get_or d k 0)) _ (none_found (structure_value_wrong Viewport d) 0 2 (rw v at e) k (omega arith) (omega arith))

  pub colour_no_nan : (k : ℕ) {kind : Kind} → 2 ≤ k → k < 6 → kind ≡ ColourCalc
      → first_of (structure_value_wrong kind d) (layout_of kind).dwords ≡ None → is_nan (get_or d k 0) ≡ false
  unfolding layout_of structure_value_wrong
  colour_no_nan k h l v e =
      sym (colour_at k h refl refl)
      ∙ none_found (structure_value_wrong ColourCalc d) 0 6 (rw v at e) k (omega arith) (omega arith)
