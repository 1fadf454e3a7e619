-- The promise of each public call admits one answer only.
-- Assumes nothing.
use Prim.Native.Nat.{ℕ}
use mathlib.Core.Path.{◌≡◌}
use mathlib.Core.List.{List}
use Rattle.rules.specs.declared.Answer.{Answer}
use Rattle.rules.specs.declared.BaseChoice.{BaseChoice}
use Rattle.lines.specs.Lines.{Line}
use Rattle.lines.proofs.Unique.{one_line}
use Rattle.clauses.specs.declared.Unread.{Unread}
use Rattle.clauses.specs.declared.Detail.{Detail}
use Rattle.clauses.specs.Clauses.{refused_words, unread_words}
use Rattle.sentences.specs.Lines.{accepted_line, refused_line, unread_line, unlisted_line, reason_line, unlisted_total, totals_line, writing_line}
use Rattle.phrases.specs.Words.{command_words}

module _ {old new new' : List ℕ} {r r' : ℕ} where
  pub accepted_line_unique : (name : List ℕ) (count : ℕ) → Line (accepted_line name count) old r new
      → Line (accepted_line name count) old r' new' → (r ≡ r') × (new ≡ new')
  accepted_line_unique name count = one_line

  pub refused_line_unique : (name : List ℕ) (answer : Answer) (dword : ℕ) (detail : Detail)
      → Line (refused_line name answer dword detail) old r new → Line (refused_line name answer dword detail) old r' new' → (r ≡ r') × (new ≡ new')
  refused_line_unique name answer dword detail = one_line

  pub unread_line_unique : (name : List ℕ) (why : Unread) → Line (unread_line name why) old r new
      → Line (unread_line name why) old r' new' → (r ≡ r') × (new ≡ new')
  unread_line_unique name why = one_line

  pub unlisted_line_unique : (name : List ℕ) → Line (unlisted_line name) old r new → Line (unlisted_line name) old r' new' → (r ≡ r') × (new ≡ new')
  unlisted_line_unique name = one_line

  pub reason_line_unique : (reason count : ℕ) → Line (reason_line reason count) old r new
      → Line (reason_line reason count) old r' new' → (r ≡ r') × (new ≡ new')
  reason_line_unique reason count = one_line

  pub unlisted_total_unique : (count : ℕ) → Line (unlisted_total count) old r new → Line (unlisted_total count) old r' new' → (r ≡ r') × (new ≡ new')
  unlisted_total_unique count = one_line

  pub totals_line_unique : (accepted refused unread missing : ℕ) (choice : BaseChoice) → Line (totals_line accepted refused unread missing choice) old r new
      → Line (totals_line accepted refused unread missing choice) old r' new' → (r ≡ r') × (new ≡ new')
  totals_line_unique accepted refused unread missing choice = one_line

  pub refused_words_unique : (reason : ℕ) (detail : Detail) → Line (refused_words reason detail) old r new
      → Line (refused_words reason detail) old r' new' → (r ≡ r') × (new ≡ new')
  refused_words_unique reason detail = one_line

  pub unread_words_unique : (why : Unread) → Line (unread_words why) old r new → Line (unread_words why) old r' new' → (r ≡ r') × (new ≡ new')
  unread_words_unique why = one_line

  pub command_words_unique : (row : ℕ) → Line (command_words row) old r new → Line (command_words row) old r' new' → (r ≡ r') × (new ≡ new')
  command_words_unique row = one_line

  pub writing_line_unique : (name : List ℕ) (number reason : ℕ) → Line (writing_line name number reason) old r new
      → Line (writing_line name number reason) old r' new' → (r ≡ r') × (new ≡ new')
  writing_line_unique name number reason = one_line
