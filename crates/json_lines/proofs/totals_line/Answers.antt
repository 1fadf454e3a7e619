-- `totals_line` meets its contract: the counts, the reasons, the rules and the base, each behind the last.
use Rattle.std.proofs.Common.{rules}
use Rattle.json_lines.specs.Objects.{totals_line}
use Rattle.lines.proofs.Putting.{then, whole}
use Rattle.json_lines.proofs.totals_line.Goals as goal

pub returns : goal.returns
unfolding totals_line
returns c =
    let told = then (then c.put_counts.ensures c.put_text.ensures) c.put_reasons.ensures in
    let ruled = then (then told c.put_text-2.ensures) c.put_text-3.ensures in
    whole c.new-out.ensures c.len.ensures (search rules) (then (then ruled c.put_base.ensures) c.put_text-4.ensures)
