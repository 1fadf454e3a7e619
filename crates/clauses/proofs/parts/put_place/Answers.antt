-- `put_place` meets its contract: the end of the batch, or window, index and dword.
use Rattle.std.proofs.Common.{rules}
use borrow.Author.Tests.{eq-eqb, ne_eqb}
use Rattle.lines.proofs.Putting.{then, at_most}
use Rattle.clauses.specs.Clauses.{place_text}
use Rattle.clauses.proofs.parts.put_place.Goals as goal

pub returns-then-answer-eq6 : goal.returns-then-answer-eq6
unfolding place_text
returns-then-answer-eq6 c = simp (eq-eqb _ _ c.if-answer-eq6.true) (at_most (search rules) c.put_text.ensures)

pub returns : goal.returns
unfolding place_text
returns c = simp (ne_eqb _ _ c.if-answer-eq6.false) (then (then c.put_window.ensures c.put_count.ensures) c.put_dword.ensures)
