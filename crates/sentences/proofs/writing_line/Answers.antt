-- `writing_line` meets its contract: the parts, each behind the last.
use Rattle.std.proofs.Common.{rules}
use Rattle.lines.proofs.Putting.{then, whole}
use Rattle.sentences.specs.Lines.{writing_line}
use Rattle.sentences.proofs.writing_line.Goals as goal

pub returns : goal.returns
unfolding writing_line
returns c =
    let front = then (then c.put_text.ensures c.put_both.ensures) c.put_count.ensures in
    whole c.new-message.ensures c.len.ensures (search rules) (then (then (then front c.put_count-2.ensures) (rw c.writing_words.ensures.words at c.put_text-2.ensures)) c.put_byte.ensures)
