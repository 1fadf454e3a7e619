-- `put_command` meets its contract: four columns, each behind the last.
use Rattle.std.proofs.Common.{append_assoc}
use Rattle.rules.specs.Printout.{command_line}
use Rattle.lines.proofs.Putting.{then}
use Rattle.printout.proofs.put_command.Goals as goal

pub returns : goal.returns
unfolding command_line
returns c =
    let rest = then c.put_column-2.ensures (then c.put_column-3.ensures c.put_column-4.ensures) in
    simp append_assoc at (then c.put_column.ensures rest)
