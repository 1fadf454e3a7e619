-- `put_base` meets its contract: the word behind the key.
use Rattle.std.proofs.Common.{rules}
use Rattle.lines.proofs.Putting.{then, at_most}
use Rattle.members.specs.Members.{base_text}
use Rattle.members.proofs.put_base.Goals as goal

pub returns-in-StateWindow : goal.returns-in-StateWindow
unfolding base_text
returns-in-StateWindow c = rw c.in-StateWindow.is (at_most (search rules) (then c.put_text.ensures c.put_text-in-StateWindow.ensures))

pub returns-in-NoBase : goal.returns-in-NoBase
unfolding base_text
returns-in-NoBase c = rw c.in-NoBase.is (at_most (search rules) (then c.put_text.ensures c.put_text-in-NoBase.ensures))
