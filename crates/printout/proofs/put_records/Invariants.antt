-- The invariant of the loop of `put_records`: which lines of the records before i stand in the page, and how many are to come.
use Rattle.printout.proofs.Paging.{Gathering}
use Rattle.printout.proofs.put_records.Given as goal

abbrev pub invariant-loop-i : goal.invariant-loop-i
invariant-loop-i l = Gathering l.records l.initial.page l.page l.i
