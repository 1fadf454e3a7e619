-- The measure is the number of record words that are left, of which each page tells some.
use Rattle.std.proofs.Common.{length, ◌≤◌}
use Rattle.lungevati.proofs.Printer.print_records.Given as goal

abbrev pub invariant-loop-rest : goal.invariant-loop-rest
invariant-loop-rest g l = length l.rest ≤ length l.records

abbrev pub decreases-loop-rest : goal.decreases-loop-rest
decreases-loop-rest g l = length l.rest
