-- Addresses below 2^47, by their high dword, which is at most 7FFFh: it is canonical, and keeps the mask of one that is not used.
-- Assumes nothing.
use Prim.Native.Nat.{ℕ, ◌≤◌}
use native.Mathlib.Omega.{arith}
use mathlib.Core.Path.{◌≡◌, refl, ◌∙◌}
use mathlib.Core.Bool.{Bool, true, false, not, ◌&&◌, ◌||◌}
use lib.Bits.{and_mask}
use borrow.Author.Tests.{eq-eqb, le-leb}
use Rattle.rules.specs.Words.{allowed}
use Rattle.rules.specs.Uses.{canonical}
use Rattle.rules.proofs.Canonical.{canonical_ranges}

pub low_canonical : (high : ℕ) → high ≤ 0x7FFF → canonical high ≡ true
low_canonical high h = rw (canonical_ranges high (omega arith), le-leb _ _ h)

pub low_kept : (high : ℕ) → high ≤ 0x7FFF → allowed high 0x0000FFFF ≡ true
unfolding allowed
low_kept high h = eq-eqb _ _ (and_mask high 16 ∙ omega arith)

-- so whether it is used or not, 10 has nothing against it, and 12 has nothing
pub low_kept_anyway : (used : Bool) (high : ℕ) → high ≤ 0x7FFF → (used || allowed high 0x0000FFFF) ≡ true
low_kept_anyway true high h = refl
low_kept_anyway false high h = low_kept high h

pub low_right_anyway : (used : Bool) (high : ℕ) → high ≤ 0x7FFF → not (used && not (canonical high)) ≡ true
low_right_anyway true high h = rw (low_canonical high h)
low_right_anyway false high h = refl
