-- `accepted_line` meets its contract: the parts, each behind the last.
use Rattle.std.proofs.Common.{rules}
use Rattle.lines.proofs.Putting.{then, whole}
use Rattle.sentences.specs.Lines.{accepted_line}
use Rattle.sentences.proofs.accepted_line.Goals as goal

pub returns : goal.returns
unfolding accepted_line
returns c = whole c.new-out.ensures c.len.ensures (search rules) (then (then c.put_both.ensures c.put_commands.ensures) c.put_byte.ensures)
