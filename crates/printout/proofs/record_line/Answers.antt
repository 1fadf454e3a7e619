-- `record_line` meets its contract: the line of the command that the record says.
use Rattle.std.proofs.Common.{arith}
use Rattle.lines.proofs.Putting.{whole}
use Rattle.printout.proofs.record_line.Goals as goal

pub returns : goal.returns
returns c = whole c.new-line.ensures c.len.ensures (omega arith) (rw c.command.ensures at c.put_command.ensures)
