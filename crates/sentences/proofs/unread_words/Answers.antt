-- `unread_words` meets its contract.
use Rattle.std.proofs.Common.{rules}
use Rattle.lines.proofs.Putting.{whole}
use Rattle.sentences.proofs.unread_words.Goals as goal

pub returns : goal.returns
returns c = whole c.new-out.ensures c.len.ensures (search rules) c.put_unread.ensures
