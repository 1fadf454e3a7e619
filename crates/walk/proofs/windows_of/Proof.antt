-- `walk::windows_of` meets its contract: the numbers are those of the capture.
-- Assumes nothing.
use Rattle.rules.specs.Windows.{windows_of}
use borrow.Author.Rules.{rules}
use Rattle.walk.proofs.windows_of.Statement.{statement}
use Rattle.walk.proofs.windows_of.Tie as tie

returns : tie.Need-returns
unfolding windows_of
returns c = rw (c.lent.ensures, c.lent-2.ensures)

pub windows_of_spec : {M : Type 1} → statement M
windows_of_spec = tie.close (tie.spec (λ c κs. search rules) (λ c κs. search rules) returns)
