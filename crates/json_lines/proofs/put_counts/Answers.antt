-- `put_counts` meets its contract: the five counts, each behind the last.
use Rattle.std.proofs.Common.{rules}
use Rattle.lines.proofs.Putting.{then, at_most}
use Rattle.json_lines.specs.Objects.{counts_text}
use Rattle.json_lines.proofs.put_counts.Goals as goal

pub returns : goal.returns
unfolding counts_text
returns c =
    let judged = then c.put_number.ensures c.put_number-2.ensures in
    at_most (search rules) (then (then (then judged c.put_number-3.ensures) c.put_number-4.ensures) c.put_number-5.ensures)
