-- A search for the first of the numbers below n, by a loop that has come to k.
-- Assumes nothing.
use Rattle.std.specs.Prelude.{Some, None}
use Prim.Native.Nat.{ℕ, suc, ◌+◌, ◌-◌, ◌≤◌, ◌<◌}
use mathlib.Core.Path.{◌≡◌, ap}
use mathlib.Core.Bool.{Bool, true, false}
use native.Mathlib.Omega.{arith}
use Rattle.rules.specs.Words.{first_from, first_of}
use Rattle.rules.proofs.Searching.{search_passes, search_stops}

pub from_the_start : (bad : ℕ → Bool) (n : ℕ) → first_of bad n ≡ first_from bad 0 (n - 0)
from_the_start bad n = ap (first_from bad 0) (omega arith)

module _ (bad : ℕ → Bool) (n k : ℕ) where
  pub goes_on : k < n → bad k ≡ false → first_from bad k (n - k) ≡ first_from bad (k + 1) (n - (k + 1))
  goes_on h e = let l : n - k ≡ suc (n - (k + 1)) = omega arith in rw l (search_passes bad k (n - (k + 1)) e)

  pub stops_here : k < n → bad k ≡ true → first_from bad k (n - k) ≡ Some k
  stops_here h e = let l : n - k ≡ suc (n - (k + 1)) = omega arith in rw l (search_stops bad k (n - (k + 1)) e)

  pub comes_to_the_end : n ≤ k → first_from bad k (n - k) ≡ None
  unfolding first_from
  comes_to_the_end h = let l : n - k ≡ 0 = omega arith in rw l
