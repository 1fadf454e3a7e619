-- The invariant of the loop of `put_name`: the bytes before i are shown.
use Rattle.names.proofs.Showing.{Showing}
use Rattle.names.proofs.put_name.Given as goal

abbrev pub invariant-loop-i : goal.invariant-loop-i
invariant-loop-i l = Showing l.name l.initial.text l.text l.left l.i
