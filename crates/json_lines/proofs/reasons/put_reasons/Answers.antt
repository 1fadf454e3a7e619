-- `put_reasons` meets its contract: a reason more is told in each turn.
use Rattle.std.proofs.Common.{rules, arith}
use borrow.Author.Tests.{eq-eqb, ne_eqb}
use Rattle.json_lines.proofs.Telling.{tell_starts, tell_goes_on, tell_ends}
use Rattle.json_lines.proofs.reasons.put_reasons.Goals as goal
use Rattle.json_lines.proofs.reasons.put_reasons.Goals.{then-n-ne0, else-n-ne0}

pub loop-reason-init : goal.loop-reason-init
loop-reason-init c = tell_starts

pub loop-reason-preserved : goal.loop-reason-preserved
loop-reason-preserved c = tell_goes_on c.loop-reason.invariant (search rules) c.put_reason.ensures (elim c.if-n-ne0.branch [
  | then-n-ne0 w ↦ rw (w.told-is, ne_eqb _ _ w.if-n-ne0.true)
  | else-n-ne0 w ↦ rw (w.told-is, eq-eqb _ _ w.if-n-ne0.false) (omega arith)
])

pub returns : goal.returns
returns c = tell_ends c.loop-reason.invariant (search rules)
