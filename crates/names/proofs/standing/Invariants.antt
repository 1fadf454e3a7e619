-- The invariant of the loop of `standing`: the rows before this one do not fit the character.
use Rattle.names.proofs.Trying.{Trying}
use Rattle.names.proofs.standing.Given as goal

abbrev pub invariant-loop-row : goal.invariant-loop-row
invariant-loop-row l = Trying l.name l.at l.a l.b l.c l.d l.row-index
