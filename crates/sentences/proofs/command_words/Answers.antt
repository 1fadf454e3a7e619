-- `command_words` meets its contract.
use Rattle.std.proofs.Common.{rules}
use Rattle.lines.proofs.Putting.{whole}
use Rattle.sentences.proofs.command_words.Goals as goal

pub returns : goal.returns
returns c = whole c.new-out.ensures c.len.ensures (search rules) (rw c.command_words.ensures.words at c.put_text.ensures)
