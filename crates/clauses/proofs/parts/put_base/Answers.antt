-- `put_base` meets its contract, by the base.
use Rattle.std.proofs.Common.{rules}
use Rattle.lines.proofs.Putting.{at_most}
use Rattle.clauses.specs.Clauses.{base_text}
use Rattle.clauses.proofs.parts.put_base.Goals as goal

pub returns-in-StateWindow : goal.returns-in-StateWindow
unfolding base_text
returns-in-StateWindow c = rw c.in-StateWindow.is c.put_text.ensures

pub returns-in-NoBase : goal.returns-in-NoBase
unfolding base_text
returns-in-NoBase c = rw c.in-NoBase.is (at_most (search rules) c.put_text-in-NoBase.ensures)
