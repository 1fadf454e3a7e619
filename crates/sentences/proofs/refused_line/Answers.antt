-- `refused_line` meets its contract: the parts, each behind the last.
use Rattle.std.proofs.Common.{rules}
use Rattle.lines.proofs.Putting.{then, whole}
use Rattle.sentences.specs.Lines.{refused_line}
use Rattle.sentences.proofs.refused_line.Goals as goal

pub returns : goal.returns
unfolding refused_line
returns c =
    let front = then (then c.put_both.ensures c.put_decimal.ensures) c.put_progress.ensures in
    whole c.new-out.ensures c.len.ensures (search rules) (then (then (then front c.put_text.ensures) c.put_refusal.ensures) c.put_byte.ensures)
