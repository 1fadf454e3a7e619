-- The stores that are left, made on what is there, give the whole buffer.
use Rattle.opening.proofs.Filling.{Filling}
use Rattle.opening.proofs.fill.Given as goal

abbrev pub invariant-loop-i : goal.invariant-loop-i
invariant-loop-i l = Filling l.file l.from l.n l.initial.buffer l.buffer l.i
