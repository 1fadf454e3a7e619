-- Values are in the order of their ranks.
-- Assumes nothing.
use borrow.Author.Rules.{rules}
use Rattle.state_values.proofs.Ordering.{in_rank, same_bits}
use Rattle.state_values.proofs.at_most_by_bits.Goals as goal

pub returns-then-minimum-maximum : goal.returns-then-minimum-maximum
returns-then-minimum-maximum c = same_bits _ _ (search rules) c.requires.maximum_value c.if-minimum-maximum.true

pub returns-else-minimum-maximum : goal.returns-else-minimum-maximum
returns-else-minimum-maximum c =
    rw (c.rank.ensures, c.rank-else-minimum-maximum.ensures)
    (in_rank _ _ (search rules) (search rules) c.requires.minimum_value c.requires.maximum_value)
