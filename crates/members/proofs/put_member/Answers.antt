-- `put_member` meets its contract: a number or null, behind its key.
use Rattle.std.proofs.Common.{rules}
use Rattle.lines.proofs.Putting.{then, at_most}
use Rattle.members.specs.Members.{number_text}
use Rattle.members.proofs.put_member.Goals as goal

pub returns-in-Some : goal.returns-in-Some
unfolding number_text
returns-in-Some c = rw c.in-Some.is (then c.put_text.ensures c.put_decimal.ensures)

pub returns-in-None : goal.returns-in-None
unfolding number_text
returns-in-None c = rw c.in-None.is (at_most (search rules) (then c.put_text.ensures c.put_text-in-None.ensures))
