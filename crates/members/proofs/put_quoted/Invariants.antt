-- The invariant of the loop of `put_quoted`: the bytes before this one are quoted.
use Rattle.members.proofs.Quoting.{Quoting}
use Rattle.members.proofs.put_quoted.Given as goal

abbrev pub invariant-loop-byte : goal.invariant-loop-byte
invariant-loop-byte l = Quoting l.text l.initial.line l.line l.byte-index
