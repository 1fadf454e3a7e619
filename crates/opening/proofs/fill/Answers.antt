-- A store more, and the end.
use Rattle.std.proofs.Common.{rules}
use Rattle.opening.proofs.Filling.{fill_goes_on, fill_ends}
use Rattle.opening.proofs.fill.Goals as goal

pub loop-i-preserved : goal.loop-i-preserved
loop-i-preserved c = fill_goes_on c.loop-i.invariant (search rules) c.word_at.ensures

pub returns : goal.returns
returns c = fill_ends c.loop-i.invariant (search rules) (search rules)
