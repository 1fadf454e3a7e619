-- `put_progress` meets its contract: nothing where there was no walk, and else the place and the commands before it.
use borrow.Author.Tests.{lt-ltb, le-ltb}
use mathlib.Core.Logic.{⊎_elim}
use Rattle.lines.proofs.Putting.{nothing, then}
use Rattle.clauses.specs.Clauses.{progress_text}
use Rattle.clauses.proofs.parts.put_progress.Goals as goal

pub returns-then-answer-lt5 : goal.returns-then-answer-lt5
unfolding progress_text
returns-then-answer-lt5 c =
    ⊎_elim (λ e. simp (lt-ltb c.args.answer.reason 5 e) nothing) (λ e. simp (le-ltb c.args.answer.reason 5 e.0, lt-ltb 18 c.args.answer.reason e.1) nothing) c.then-answer-lt5.either

pub returns : goal.returns
unfolding progress_text
returns c =
    simp (le-ltb _ _ c.if-answer-lt5.false, le-ltb _ _ c.if-answer-gt18.false)
    (then (then c.put_place.ensures c.put_text.ensures) c.put_commands.ensures)
