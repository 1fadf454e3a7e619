-- The promise of each public call admits one answer only.
-- Assumes nothing.
use Prim.Native.Nat.{ℕ}
use mathlib.Core.Path.{◌≡◌, sym, ◌∙◌}
use mathlib.Core.List.{List}
use Rattle.rules.specs.declared.Answer.{Answer}
use Rattle.rules.specs.Printout.{answer_line, record_line}
use Rattle.lines.specs.Lines.{Line}
use Rattle.lines.proofs.Unique.{one_line}
use Rattle.printout.specs.declared.Page.{Page}
use Rattle.printout.specs.Pages.{Gathered}

module _ {old new new' : List ℕ} {r r' : ℕ} where
  pub answer_line_unique : (answer : Answer) → Line (answer_line answer) old r new → Line (answer_line answer) old r' new'
      → (r ≡ r') × (new ≡ new')
  answer_line_unique answer = one_line

  pub record_line_unique : (first second : ℕ) → Line (record_line first second) old r new → Line (record_line first second) old r' new'
      → (r ≡ r') × (new ≡ new')
  record_line_unique first second = one_line

pub page_unique : {records old new new' : List ℕ} {page page' : Page} → Gathered records old page new → Gathered records old page' new'
    → (page.lines ≡ page'.lines) × (page.bytes ≡ page'.bytes) × (new ≡ new')
page_unique {records = records} p q =
    let same = p.lines ∙ sym q.lines in
    let told = one_line p.bytes (rw (← same) at q.bytes) in
    (same, told.0, told.1)
