-- `unlisted_line` meets its contract.
use Rattle.std.proofs.Common.{rules}
use Rattle.lines.proofs.Putting.{whole}
use Rattle.sentences.specs.Lines.{unlisted_line}
use Rattle.sentences.proofs.unlisted_line.Goals as goal

pub returns : goal.returns
unfolding unlisted_line
returns c = whole c.new-out.ensures c.len.ensures (search rules) c.put_both.ensures
