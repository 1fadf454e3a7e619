-- `put_dword` meets its contract: a dword or null, behind the key.
use Rattle.std.proofs.Common.{rules}
use Rattle.lines.proofs.Putting.{then, at_most}
use Rattle.members.specs.Members.{dword_text}
use Rattle.members.proofs.put_dword.Goals as goal

pub returns-in-Some : goal.returns-in-Some
unfolding dword_text
returns-in-Some c = rw c.in-Some.is (then c.put_text.ensures c.put_digits_quoted.ensures)

pub returns-in-None : goal.returns-in-None
unfolding dword_text
returns-in-None c = rw c.in-None.is (at_most (search rules) (then c.put_text.ensures c.put_text-in-None.ensures))
