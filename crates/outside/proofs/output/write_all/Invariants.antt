-- Each turn writes at least a byte. What is written so far stands in the text before the rest.
use Rattle.std.proofs.Common.{length}
use Rattle.outside.proofs.Bytes.{Begun}
use Rattle.outside.proofs.output.write_all.Given as goal

abbrev pub invariant-loop-rest : goal.invariant-loop-rest
invariant-loop-rest g l = Begun (g.W.Write.contents l.initial.to) (g.W.Write.contents l.to) l.text l.rest

abbrev pub decreases-loop-rest : goal.decreases-loop-rest
decreases-loop-rest g l = length l.rest
