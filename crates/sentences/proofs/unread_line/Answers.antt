-- `unread_line` meets its contract: the parts, each behind the last.
use Rattle.std.proofs.Common.{rules}
use Rattle.lines.proofs.Putting.{then, whole}
use Rattle.sentences.specs.Lines.{unread_line}
use Rattle.sentences.proofs.unread_line.Goals as goal

pub returns : goal.returns
unfolding unread_line
returns c =
    let front = then c.put_text.ensures c.put_verdict.ensures in
    whole c.new-out.ensures c.len.ensures (search rules) (then (then front c.put_unread.ensures) c.put_byte.ensures)
