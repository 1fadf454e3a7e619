-- Laws of the addresses that a command uses: none has its low dword in the header, so the header is no used high dword; and what 10 allows of a high
-- dword, by whether it is used.
-- Assumes nothing.
use Prim.Native.Nat.{ℕ, zero, suc, ◌-◌, ◌^◌, ◌<◌}
use native.Mathlib.Nat.{mod-eq_of_lt}
use mathlib.Core.Path.{◌≡◌, refl, ◌∙◌}
use mathlib.Core.Bool.{Bool, true, false, cond, not, ◌||◌}
use mathlib.Core.List.{List, [], ◌∷◌}
use lib.Bits.{and_mask}
use lib.ListN.{get_or}
use borrow.Author.Tests.{eq-eqb}
use Rattle.rules.specs.Words.{some, allowed, in_group}
use Rattle.rules.specs.Commands.{any_dword, the_row}
use Rattle.rules.specs.Uses.{Uses, no_use, uses_by_row, access_of, is_used, used_high_of}
use Rattle.rules.specs.Masks.{header_mask, masks_of, allowed_of, allowed_at, bit_wrong}
use Rattle.rules.proofs.Searching.{some_left, some_right}

-- where no line of a table of uses has an address at a dword, the line of no row has one
row_unused : (d : List ℕ) (k j w : ℕ) (uses : List Uses) → some (λ u. is_used (u d k j w)) uses ≡ false → (r : ℕ)
    → is_used (get_or uses r no_use d k j w) ≡ false
unfolding some
row_unused d k j w [] e r = refl
row_unused d k j w (u ∷ uses) e zero = some_left (is_used (u d k j w)) _ e
row_unused d k j w (u ∷ uses) e (suc r) = row_unused d k j w uses (some_right (is_used (u d k j w)) _ e) r

pub header_no_high : (r : ℕ) (d : List ℕ) (k : ℕ) → used_high_of r d k 0 ≡ false
unfolding some uses_by_row access_of used_high_of
header_no_high r d k = row_unused d (k - 1) 0 (get_or d (k - 1) 0) uses_by_row refl r

-- so the header is held against its own mask
pub header_bits : (r : ℕ) (d : List ℕ) → bit_wrong r d 0 ≡ not (allowed (get_or d 0 0) (header_mask (the_row r)))
unfolding bit_wrong allowed_at allowed_of masks_of in_group
header_bits r d = rw (header_no_high r d 0)

-- "Free means any dword"
pub any_dword_lem : (x : ℕ) → x < 2 ^ 32 → allowed x 0xFFFFFFFF ≡ true
unfolding allowed
any_dword_lem x h = eq-eqb _ _ (and_mask x 32 ∙ mod-eq_of_lt h)

-- a dword that may have any bit where it is used, and else those of its mask
pub used_or_kept : (used : Bool) (x mask : ℕ) → x < 2 ^ 32 → allowed x (cond used any_dword mask) ≡ (used || allowed x mask)
used_or_kept true x mask h = any_dword_lem x h
used_or_kept false x mask h = refl
