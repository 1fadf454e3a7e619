-- Where a range of bytes has to lie, as the code asks it.
-- Assumes nothing.
use Prim.Native.Nat.{ℕ}
use mathlib.Core.Path.{◌≡◌, sym, ◌∙◌}
use mathlib.Core.Bool.{Bool, or-false}
use Rattle.rules.specs.declared.Windows.{Windows}
use Rattle.rules.specs.declared.Within.TheVariants.{BatchOnly, ScratchOnly, AnyWindow}
use Rattle.rules.specs.Words.{some}
use Rattle.rules.specs.Windows.{holds, windows_within, fits}

-- what the code asks of one window, at the address that two dwords make
module _ (w : Windows) {address at : ℕ} (bytes : ℕ) {fit : Bool} (e : at ≡ address) where
  pub batch_holds : fit ≡ holds w.batch at bytes → fit ≡ fits w BatchOnly address bytes
  unfolding some windows_within fits
  batch_holds h = rw e at h ∙ sym (or-false _)

  pub scratch_holds : fit ≡ holds w.scratch at bytes → fit ≡ fits w ScratchOnly address bytes
  unfolding some windows_within fits
  scratch_holds h = rw e at h ∙ sym (or-false _)

  pub any_fits : fit ≡ fits w AnyWindow at bytes → fit ≡ fits w AnyWindow address bytes
  any_fits h = rw e at h
