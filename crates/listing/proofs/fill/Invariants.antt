-- The records of the words before i are written, and what was behind them stands.
use Rattle.listing.proofs.Filling.{Filling}
use Rattle.listing.proofs.fill.Given as goal

abbrev pub invariant-loop-i : goal.invariant-loop-i
invariant-loop-i l = Filling l.old l.initial.new l.new l.i
