-- Depths as single-precision values: one table of pairs, computed. Negative ones are in order, -0 equals +0, no NaN is in order.
-- Assumes nothing.
use Prim.Native.Nat.{ℕ}
use mathlib.Core.Path.{◌≡◌, refl}
use mathlib.Core.Bool.{Bool, true, false, beq, ◌&&◌}
use mathlib.Core.List.{List, [], ◌∷◌}
use lib.Ieee.{of_bits, nan_bits, le}
use Rattle.rules.specs.Structures.{is_nan, at_most}
use Rattle.rules.specs.Cases.{named_if}

-- a number for each pair, the two patterns, whether the first is a NaN, and whether the first is at most the second
pub record Pair : Type 0 where
  pub number : ℕ
  pub low : ℕ
  pub high : ℕ
  pub nan : Bool
  pub ordered : Bool

abbrev pair : ℕ → ℕ → ℕ → Bool → Bool → Pair
pair number low high nan ordered = record { number = number; low = low; high = high; nan = nan; ordered = ordered }

pub pairs : List Pair
pairs =
    -- -0 and +0, both ways
    pair 1 0x80000000 0x00000000 false true
    ∷ pair 2 0x00000000 0x80000000 false true
    -- -2 and -1, both ways: as integers their patterns stand the other way round
    ∷ pair 3 0xC0000000 0xBF800000 false true
    ∷ pair 4 0xBF800000 0xC0000000 false false
    -- a negative and a positive value
    ∷ pair 5 0xBF800000 0x3F800000 false true
    ∷ pair 6 0x3F800000 0xBF800000 false false
    -- the infinities, and the largest value below the upper one
    ∷ pair 7 0xFF800000 0x7F800000 false true
    ∷ pair 8 0x7F800000 0x7F7FFFFF false false
    ∷ pair 9 0x7F800000 0x7F800000 false true
    -- the smallest denormals: exact, not flushed to 0
    ∷ pair 10 0x00000001 0x00000000 false false
    ∷ pair 11 0x80000001 0x00000000 false true
    ∷ pair 12 0x80000000 0x80000001 false false
    -- a NaN, quiet or signalling, of either sign, is in no order
    ∷ pair 13 0x7FC00000 0x7FC00000 true false
    ∷ pair 14 0x7F800001 0x00000000 true false
    ∷ pair 15 0xFFFFFFFF 0x7F800000 true false
    ∷ pair 16 0xFF800001 0xFF800001 true false
    ∷ []

pub failing : List Pair → List ℕ
failing [] = []
failing (p ∷ ps) = named_if (beq (is_nan p.low) p.nan && beq (at_most p.low p.high) p.ordered) p.number (failing ps)

pub depths_hold : failing pairs ≡ []
unfolding pairs failing of_bits nan_bits le
depths_hold = refl
