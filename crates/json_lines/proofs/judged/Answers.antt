-- `judged` meets its contract: accepted or refused.
use borrow.Author.Tests.{eq-eqb, ne_eqb}
use Rattle.json_lines.specs.Objects.{judged}
use Rattle.json_lines.proofs.judged.Goals as goal

pub returns-then-answer-eq0 : goal.returns-then-answer-eq0
unfolding judged
returns-then-answer-eq0 c = simp (eq-eqb _ _ c.if-answer-eq0.true) c.with_answer.ensures

pub returns-else-answer-eq0 : goal.returns-else-answer-eq0
unfolding judged
returns-else-answer-eq0 c = simp (ne_eqb _ _ c.if-answer-eq0.false) c.with_answer-else-answer-eq0.ensures
