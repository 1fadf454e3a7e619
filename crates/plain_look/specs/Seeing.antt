-- What the decision by header sees of the command at a position.
use Rattle.std.specs.Prelude.{Result, ℕ, ◌+◌, ◌*◌, ◌/◌, ◌^◌, ◌≡◌, cond, List, drop, leb}
use Rattle.rules.specs.declared.Windows.{Windows}
use Rattle.rules.specs.declared.Level.{Level}
use Rattle.rules.specs.Commands.{rows, row_from, row_count}
use Rattle.rules.specs.Step.{header_at, row_at, length_at}
use Rattle.plain_shared.specs.declared.wrong.Wrong.{Wrong}
use Rattle.plain_shared.specs.Plain.{as_number, wrong_of}

-- "type 3 by 31:16": its row is one behind those of type 0, or none, by these bits alone
abbrev pub OfType3 : List ℕ → ℕ → Type 0
OfType3 batch at = row_at batch at ≡ 7 + row_from (header_at batch at / 2 ^ 16 * 2 ^ 16) (drop 7 rows)

-- a row, a length, and what a row's function answers
abbrev pub Seen : Type 0
Seen = ℕ × ℕ × Result Unit Wrong

-- what 7 to 13 say of it, and, where they say nothing, its row and its length
pub record Sees (w : Windows) (batch : List ℕ) (at : ℕ) (level : Level) (s : Seen) : Type 0 where
  pub wrong : as_number s.2 ≡ cond (leb row_count (row_at batch at)) (256 * 7) (wrong_of w (row_at batch at) (drop at batch) level)
  pub row : as_number s.2 ≡ 0 → s.0 ≡ row_at batch at
  pub long : as_number s.2 ≡ 0 → s.1 ≡ length_at batch at
