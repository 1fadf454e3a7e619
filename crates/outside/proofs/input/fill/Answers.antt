use Rattle.std.proofs.Common.{rules}
use Rattle.outside.proofs.Bytes.{read_behind}
use Rattle.outside.proofs.input.fill.Goals as goal

pub loop-count-preserved : goal.loop-count-preserved
loop-count-preserved g c = (search rules, search rules, read_behind _ _ _ _ _ _ _ c.read_at.ensures.front c.loop-count.invariant.2 c.in-Ok.ensures.ok)
