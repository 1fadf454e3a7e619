use Rattle.outside.proofs.Bytes.{front_written, nothing_more, written_on}
use Rattle.outside.proofs.output.write_all.Goals as goal

pub returns-in_err-n-clause-front : goal.returns-in_err-n-clause-front
returns-in_err-n-clause-front g c = front_written _ c.loop-rest.invariant (nothing_more _ _ c.in_err-n.ensures.bytes)

pub returns-in-0-clause-front : goal.returns-in-0-clause-front
returns-in-0-clause-front g c = front_written _ c.loop-rest.invariant (rw c.in-0.is at c.in_ok-n.ensures.bytes)

pub loop-rest-preserved : goal.loop-rest-preserved
loop-rest-preserved g c = written_on _ c.in_ok-n.n c.loop-rest.invariant c.in_ok-n.ensures.bytes
