-- `unlisted_total` meets its contract.
use Rattle.std.proofs.Common.{rules}
use Rattle.lines.proofs.Putting.{whole}
use Rattle.sentences.specs.Lines.{unlisted_total}
use Rattle.sentences.proofs.unlisted_total.Goals as goal

pub returns : goal.returns
unfolding unlisted_total
returns c = whole c.new-out.ensures c.len.ensures (search rules) c.put_count.ensures
