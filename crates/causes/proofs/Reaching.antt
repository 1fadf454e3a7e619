-- WHAT 13 TELLS: where a range does not fit, the detail is the command's row, the address, the bytes and where they should lie, as the rules give them.
-- Assumes nothing.
use Rattle.std.specs.Prelude.{Ok, Err, Option, Some, None}
use Prim.Native.Nat.{ℕ, ◌+◌, ◌-◌, ◌≤◌, ◌<◌}
use native.Mathlib.Omega.{arith}
use mathlib.Core.Path.{◌≡◌, refl, sym, ap, ◌∙◌}
use mathlib.Core.Bool.{true, false}
use mathlib.Core.List.{List}
use lib.ListN.{length}
use borrow.Author.Tests.{ltb-false, not-true}
use Rattle.rules.specs.declared.Access.{Access}
use Rattle.rules.specs.declared.Access.TheVariants.{Unused, Reaches, NoRange}
use Rattle.rules.specs.declared.Cursor.{Cursor}
use Rattle.rules.specs.declared.Fault.{Fault}
use Rattle.rules.specs.declared.Reason.TheVariants.{RangeOutside}
use Rattle.rules.specs.declared.Within.{Within}
use Rattle.rules.specs.Words.{first_of}
use Rattle.rules.specs.Refusals.{batch_window, refuse_found}
use Rattle.rules.specs.Windows.{Capture, windows_of, fits}
use Rattle.rules.specs.Uses.{address_at, access_at}
use Rattle.rules.specs.Addresses.{access_wrong, range_wrong}
use Rattle.rules.specs.Step.{here, row_at, length_at, dwords_at, past_the_window, range_outside}
use Rattle.rules.proofs.Searching.{first_found, never_both}
use Rattle.rules.proofs.Trying.{fails_not_pass, same_fault, refuse_passes}
use Rattle.clauses.specs.declared.Detail.TheVariants.{Reach}
use Rattle.causes.specs.Causes.{reach_of, reach_with, reach_at}
use Rattle.causes.proofs.Leading.{reaches}

module _ (c : Capture) (s : Cursor) where
  abbrev row : ℕ
  row = row_at c.batch s.at

  abbrev dwords : List ℕ
  dwords = dwords_at c.batch s.at

  -- the range that does not fit, and the detail that tells of it
  pub record Outside (f : Fault) : Type 0 where
    pub bytes : ℕ
    pub within : Within
    pub access : access_at row dwords (f.index - s.at) ≡ Reaches bytes within
    pub outside : fits (windows_of c) within (address_at dwords (f.index - s.at)) bytes ≡ false
    pub told : reach_at c.batch s.at (f.index - s.at) ≡ Reach row (address_at dwords (f.index - s.at)) bytes within

  by_access : {f : Fault} (a : Access) → access_at row dwords (f.index - s.at) ≡ a
      → access_wrong (windows_of c) (address_at dwords (f.index - s.at)) a ≡ true → s.at + length_at c.batch s.at ≤ length c.batch
      → f.index - s.at < length_at c.batch s.at → Outside f
  unfolding reach_with
  by_access Unused e w whole own = absurd (never_both w refl)
  by_access NoRange e w whole own = absurd (never_both w refl)
  by_access {f} (Reaches n within) e w whole own = record {
    bytes = n;
    within = within;
    access = e;
    outside = not-true _ w;
    told = sym (reaches c.batch s.at (f.index - s.at) whole own) ∙ ap (reach_of row (address_at dwords (f.index - s.at))) e;
  }

  by_found : {f : Fault} (found : Option ℕ) → first_of (range_wrong (windows_of c) row dwords) (length_at c.batch s.at) ≡ found
      → refuse_found RangeOutside batch_window s.at found ≡ Err f → s.at + length_at c.batch s.at ≤ length c.batch → Outside f
  unfolding range_wrong
  by_found None e q whole = absurd (fails_not_pass (sym q))
  by_found {f} (Some k) e q whole =
      let p = first_found _ 0 (length_at c.batch s.at) e in
      let i : f.index ≡ s.at + k = ap (λ (g : Fault). g.index) (sym (same_fault q)) in
      let j : f.index - s.at ≡ k = omega arith in
      by_access (access_at row dwords (f.index - s.at)) refl (rw j p.found) whole (omega (arith, p.below))

  -- where 9 passes and 13 fails
  pub outside_told : {f : Fault} → past_the_window (here c s) ≡ Ok tt → range_outside (here c s) ≡ Err f → Outside f
  unfolding past_the_window range_outside
  outside_told p e = by_found _ refl e (ltb-false _ _ (refuse_passes _ _ p))
