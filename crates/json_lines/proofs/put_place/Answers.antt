-- `put_place` meets its contract: window, index, dword and count, each behind the last.
use Rattle.std.proofs.Common.{rules}
use Rattle.lines.proofs.Putting.{then, at_most}
use Rattle.json_lines.specs.Objects.{place_text}
use Rattle.json_lines.proofs.put_place.Goals as goal

pub returns : goal.returns
unfolding place_text
returns c = at_most (search rules) (then (then (then c.put_member.ensures c.put_member-2.ensures) c.put_dword.ensures) c.put_member-3.ensures)
