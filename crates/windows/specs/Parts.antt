-- What is asked of a place before a part of a window is taken there.
use Rattle.std.specs.Prelude.{ℕ, ◌+◌, ◌≤◌, Option, Some, None}
use Rattle.rules.specs.declared.Held.{Held}
use Rattle.rules.specs.declared.Held.TheVariants.{InBatch, InState}

-- n dwords from the place on lie within the window that it names: by the dwords of the batch and of the state
abbrev pub WithinItsWindow : ℕ → ℕ → ℕ → Option Held → Type 0
WithinItsWindow batch state n (Some (InBatch i)) = i + n ≤ batch
WithinItsWindow batch state n (Some (InState i)) = i + n ≤ state
WithinItsWindow batch state n None = Unit {0}
