-- What a step is about: the capture that is lent to it, and what a command's structure gives (14 to 17).
use Rattle.std.specs.Prelude.{ℕ, ◌*◌, ◌^◌, ◌≤◌, ◌≡◌, List, length, Option, Some}
use Rattle.rules.specs.declared.Windows.{Windows}
use Rattle.rules.specs.declared.Kind.{Kind}
use Rattle.rules.specs.Refusals.{Verdict}
use Rattle.rules.specs.declared.Reason.TheVariants.{BaseNeverSet}
use Rattle.rules.specs.Refusals.{batch_window, fault, refuse_if}
use Rattle.rules.specs.Windows.{Capture}
use Rattle.rules.specs.Structures.{structure_nowhere, structure_bit, structure_value}
use Rattle.rules.specs.Step.{base_missing, pointed}
use Rattle.looks.specs.Looks.{or_else}

-- the capture that the windows' numbers and the two lent windows are
abbrev pub captured : Windows → List ℕ → List ℕ → Capture
captured w batch state = record {
  batch = batch;
  batch_at = w.batch.at;
  state = state;
  state_at = w.state.at;
  scratch_at = w.scratch.at;
  scratch_bytes = w.scratch.bytes;
}

-- the numbers are those of the lent windows
pub record Fitted (w : Windows) (batch state : List ℕ) : Type 0 where
  pub batch_bytes : w.batch.bytes ≡ 4 * length batch
  pub state_bytes : w.state.bytes ≡ 4 * length state

-- 14 to 17, of the structure that a command points to
unfoldable pub structural_of : Capture → ℕ → Option (Kind × ℕ) → Option ℕ → Verdict
structural_of c pointer p base =
    or_else (refuse_if (base_missing p base) (fault BaseNeverSet batch_window pointer))
    (or_else (pointed structure_nowhere c pointer p base) (or_else (pointed structure_bit c pointer p base) (pointed structure_value c pointer p base)))

-- a base at which a window may lie, 2^48 included, or none
pub record SmallBase (base : Option ℕ) : Type 0 where
  pub small : (b : ℕ) → base ≡ Some b → b ≤ 2 ^ 48
