-- A structure that is found lies within its window, and what is read of it is the definition's.
-- Assumes nothing.
use Rattle.std.specs.Prelude.{Option, Some, None}
use Prim.Native.Nat.{ℕ, ◌+◌, ◌≤◌, ◌<◌}
use mathlib.Core.Path.{◌≡◌, sym}
use mathlib.Core.List.{List}
use native.Mathlib.Omega.{arith}
use lib.ListN.{length}
use Rattle.rules.specs.declared.Held.{Held}
use Rattle.rules.specs.declared.Held.TheVariants.{InBatch, InState}
use Rattle.rules.specs.declared.Kind.{Kind}
use Rattle.rules.specs.declared.Kind.TheVariants.{Viewport, ColourCalc, Blend}
use Rattle.rules.specs.Refusals.{Verdict}
use Rattle.rules.specs.Refusals.{first_fault}
use Rattle.rules.specs.Windows.{lent, held_at, part_of}
use Rattle.rules.specs.Structures.{layout_of, held_from, structure_checks, reading_of, read_at}
use Rattle.windows.proofs.Holding.{within_batch, within_state}

at_most_17 : (kind : Kind) → (layout_of kind).dwords ≤ 17
unfolding layout_of
at_most_17 Viewport = omega arith
at_most_17 ColourCalc = omega arith
at_most_17 Blend = omega arith

module _ (limit batch_at batch_count state_at state_count address n : ℕ) (b : batch_count < limit) (s : state_count < limit) (most : n ≤ 17) where
  ends : (held : Option Held) → held ≡ held_at (lent batch_at batch_count) (lent state_at state_count) address n → 17 < limit → held_from held + n < limit
  ends (Some (InBatch i)) e l = let w = within_batch batch_at batch_count state_at state_count address n (sym e) in omega arith
  ends (Some (InState i)) e l = let w = within_state batch_at batch_count state_at state_count address n (sym e) in omega arith
  ends None e l = omega arith

-- a structure ends below any limit of the lent windows
pub ends_below : (limit batch_at batch_count state_at state_count address : ℕ) (kind : Kind) {n : ℕ} {held : Option Held}
    → n ≡ (layout_of kind).dwords
    → held ≡ held_at (lent batch_at batch_count) (lent state_at state_count) address n
    → batch_count < limit → state_count < limit → 17 < limit → held_from held + (layout_of kind).dwords < limit
ends_below limit batch_at batch_count state_at state_count address kind {n} {held} e h b s l =
    rw (← e) (ends limit batch_at batch_count state_at state_count address n b s (rw e (at_most_17 kind)) held h l)

module _ (batch : List ℕ) (batch_at : ℕ) (state : List ℕ) (state_at : ℕ) (kind : Kind) (address pointer : ℕ) where
  pub reading_is : {n : ℕ} {held : Option Held} {d : List ℕ} {v : Verdict}
      → n ≡ (layout_of kind).dwords
      → held ≡ held_at (lent batch_at (length batch)) (lent state_at (length state)) address n
      → d ≡ part_of batch state n held
      → v ≡ first_fault structure_checks (record { kind = kind; held = held; dwords = d; pointer = pointer })
      → reading_of v kind d ≡ read_at batch batch_at state state_at kind address pointer
  unfolding read_at
  reading_is n h d v = rw (v, d, h, n)
