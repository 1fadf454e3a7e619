-- `put_head` meets its contract: name, size and verdict, each behind the last.
use Rattle.std.proofs.Common.{rules}
use Rattle.lines.proofs.Putting.{then, at_most}
use Rattle.json_lines.specs.Objects.{head_text}
use Rattle.json_lines.proofs.put_head.Goals as goal

pub returns : goal.returns
unfolding head_text
returns c = at_most (search rules) (then (then c.put_string.ensures c.put_member.ensures) c.put_outcome.ensures)
