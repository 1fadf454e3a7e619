-- What the place that a search answers says of what it found.
-- Assumes nothing.
use Rattle.std.specs.Prelude.{Option, Some, None}
use Prim.Native.Nat.{ℕ, ◌≤◌, ◌<◌}
use native.Mathlib.Omega.{arith}
use mathlib.Core.Path.{◌≡◌, refl, sym, ap}
use mathlib.Core.Bool.{Bool}
use Rattle.rules.specs.Words.{first_of}
use Rattle.rules.proofs.Searching.{first_found}
use Rattle.search.specs.Search.{place_of}

module _ (bad : ℕ → Bool) (n : ℕ) {place : ℕ} (e : place ≡ place_of (first_of bad n) n) where
  -- below the number of dwords it is that of the first
  pub found_at : place < n → first_of bad n ≡ Some place
  unfolding place_of
  found_at h = by (first_of bad n) e
    where
      by : (f : Option ℕ) → place ≡ place_of f n → f ≡ Some place
      by (Some k) q = ap Some (sym q)
      by None q = absurd (omega arith)

  -- and else there is none
  pub found_none : n ≤ place → first_of bad n ≡ None
  unfolding place_of
  found_none h = by (first_of bad n) refl e
    where
      by : (f : Option ℕ) → first_of bad n ≡ f → place ≡ place_of f n → f ≡ None
      by (Some k) r q = absurd (omega (arith, (first_found bad 0 n r).below))
      by None r q = refl
