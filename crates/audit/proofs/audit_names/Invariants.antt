-- The measure is how many bytes of the file of names are left. There are no more names than bytes.
use Rattle.std.proofs.Common.{◌-◌, ◌≤◌}
use Rattle.audit.proofs.audit_names.Given as goal

abbrev pub invariant-loop-at : goal.invariant-loop-at
invariant-loop-at g l = l.number ≤ l.at

abbrev pub decreases-loop-at : goal.decreases-loop-at
decreases-loop-at g l = l.size - l.at
