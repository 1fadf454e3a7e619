-- The promise of each public call admits one answer only.
-- Assumes nothing.
use Prim.Native.Nat.{ℕ}
use mathlib.Core.Path.{◌≡◌}
use mathlib.Core.List.{List}
use Rattle.rules.specs.declared.BaseChoice.{BaseChoice}
use Rattle.lines.specs.Lines.{Line}
use Rattle.lines.proofs.Unique.{one_line}
use Rattle.json_lines.specs.declared.Told.{Told}
use Rattle.json_lines.specs.declared.Totals.{Totals}
use Rattle.json_lines.specs.Objects.{file_line, totals_line}

module _ {old new new' : List ℕ} {r r' : ℕ} where
  pub file_line_unique : (name words : List ℕ) (told : Told) → Line (file_line name words told) old r new
      → Line (file_line name words told) old r' new' → (r ≡ r') × (new ≡ new')
  file_line_unique name words told = one_line

  pub totals_line_unique : (t : Totals) (counts : List ℕ) (choice : BaseChoice) → Line (totals_line t counts choice) old r new
      → Line (totals_line t counts choice) old r' new' → (r ≡ r') × (new ≡ new')
  totals_line_unique t counts choice = one_line
