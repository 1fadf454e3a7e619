-- `put_refusal` meets its contract: the words for the reason, and what happened behind them.
use Rattle.std.proofs.Common.{rules}
use Rattle.lines.proofs.Putting.{then, at_most}
use Rattle.clauses.specs.Clauses.{refused_words}
use Rattle.clauses.proofs.details.put_refusal.Goals as goal

pub returns : goal.returns
unfolding refused_words
returns c = at_most (search rules) (then (rw c.reason_words.ensures.words at c.put_text.ensures) c.put_detail.ensures)
