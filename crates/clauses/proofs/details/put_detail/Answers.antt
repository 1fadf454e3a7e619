-- `put_detail` meets its contract, by what is known of the refusal.
use Rattle.std.proofs.Common.{rules}
use Rattle.lines.proofs.Putting.{nothing, at_most}
use Rattle.clauses.specs.Clauses.{detail_text}
use Rattle.clauses.proofs.details.put_detail.Goals as goal

pub returns-in-NoMore : goal.returns-in-NoMore
unfolding detail_text
returns-in-NoMore c = rw c.in-NoMore.is nothing

pub returns-in-InCommand : goal.returns-in-InCommand
unfolding detail_text
returns-in-InCommand c = rw c.in-InCommand.is (at_most (search rules) c.put_command.ensures)

pub returns-in-Reach : goal.returns-in-Reach
unfolding detail_text
returns-in-Reach c = rw c.in-Reach.is c.put_reach.ensures

pub returns-in-HasBytes : goal.returns-in-HasBytes
unfolding detail_text
returns-in-HasBytes c = rw c.in-HasBytes.is (at_most (search rules) c.put_size.ensures)

pub returns-in-HasTooMany : goal.returns-in-HasTooMany
unfolding detail_text
returns-in-HasTooMany c = rw c.in-HasTooMany.is (at_most (search rules) c.put_text.ensures)
