-- The invariant of the loop of `put_reasons`: the reasons before this one are told.
use Rattle.json_lines.proofs.Telling.{Telling}
use Rattle.json_lines.proofs.reasons.put_reasons.Given as goal

abbrev pub invariant-loop-reason : goal.invariant-loop-reason
invariant-loop-reason l = Telling l.counts l.initial.line l.line l.told l.reason
