-- `put_outcome` meets its contract: the word behind the key.
use Rattle.std.proofs.Common.{rules}
use Rattle.lines.proofs.Putting.{then, at_most}
use Rattle.members.proofs.put_outcome.Goals as goal

pub returns : goal.returns
returns c = at_most (search rules) (then c.put_text.ensures (rw c.text.ensures.word at c.put_text-2.ensures))
