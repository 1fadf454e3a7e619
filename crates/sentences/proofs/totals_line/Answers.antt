-- `totals_line` meets its contract: the parts, each behind the last.
use Rattle.std.proofs.Common.{rules}
use Rattle.lines.proofs.Putting.{then, whole}
use Rattle.sentences.specs.Lines.{totals_line}
use Rattle.sentences.proofs.totals_line.Goals as goal

pub returns : goal.returns
unfolding totals_line
returns c =
    let front = then (then c.put_count.ensures c.put_count-2.ensures) c.put_count-3.ensures in
    whole c.new-out.ensures c.len.ensures (search rules) (then (then (then front c.put_count-4.ensures) c.put_base.ensures) c.put_byte.ensures)
