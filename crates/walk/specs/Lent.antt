-- What the public calls are about: the capture that a caller lends.
use Rattle.std.specs.Prelude.{ℕ, List}
use Rattle.rules.specs.Windows.{Capture}

-- the capture that a caller lends: two windows with their addresses, and the third by its numbers
abbrev pub lent_capture : List ℕ → ℕ → List ℕ → ℕ → ℕ → ℕ → Capture
lent_capture batch batch_at state state_at scratch_at scratch_bytes =
    record { batch = batch; batch_at = batch_at; state = state; state_at = state_at; scratch_at = scratch_at; scratch_bytes = scratch_bytes }
