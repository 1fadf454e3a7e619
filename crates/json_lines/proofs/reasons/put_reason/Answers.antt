-- `put_reason` meets its contract: nothing, or the number and how many.
use borrow.Author.Tests.{eq-eqb, ne_eqb}
use Rattle.lines.proofs.Putting.{nothing, then}
use Rattle.json_lines.specs.Objects.{reason_text}
use Rattle.json_lines.proofs.reasons.put_reason.Goals as goal

pub returns-then-n-eq0 : goal.returns-then-n-eq0
unfolding reason_text
returns-then-n-eq0 c = simp (eq-eqb _ _ c.if-n-eq0.true) nothing

pub returns : goal.returns
unfolding reason_text
returns c = simp (ne_eqb _ _ c.if-n-eq0.false) (then (then c.put_quote.ensures c.put_decimal.ensures) c.put_number.ensures)
