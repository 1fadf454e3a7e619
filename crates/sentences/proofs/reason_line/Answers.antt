-- `reason_line` meets its contract: the parts, each behind the last.
use Rattle.std.proofs.Common.{rules}
use Rattle.lines.proofs.Putting.{then, whole}
use Rattle.sentences.specs.Lines.{reason_line}
use Rattle.sentences.proofs.reason_line.Goals as goal

pub returns : goal.returns
unfolding reason_line
returns c =
    let front = then c.put_count.ensures c.put_count-2.ensures in
    whole c.new-out.ensures c.len.ensures (search rules) (then (then front (rw c.reason_words.ensures.words at c.put_text.ensures)) c.put_byte.ensures)
