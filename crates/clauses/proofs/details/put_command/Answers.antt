-- `put_command` meets its contract: the name of the command behind a colon.
use Rattle.std.proofs.Common.{rules}
use Rattle.lines.proofs.Putting.{at_most}
use Rattle.clauses.specs.Clauses.{command_text}
use Rattle.clauses.proofs.details.put_command.Goals as goal

pub returns : goal.returns
unfolding command_text
returns c = rw (← c.command_words.ensures.words) (at_most (search rules) c.put_both.ensures)
