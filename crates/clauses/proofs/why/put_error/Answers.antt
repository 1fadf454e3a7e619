-- `put_error` meets its contract: the words of the table, or the number.
use Rattle.std.proofs.Common.{rules}
use borrow.Author.Tests.{lt-ltb, le-ltb}
use Rattle.lines.proofs.Putting.{then, at_most}
use Rattle.clauses.specs.Clauses.{error_text}
use Rattle.clauses.proofs.why.put_error.Goals as goal

pub returns-then-error-le40 : goal.returns-then-error-le40
unfolding error_text
returns-then-error-le40 c =
    simp (le-ltb _ _ c.if-error-le40.true)
    (at_most (search rules) (then c.put_text.ensures (rw c.error_words.ensures.words at c.put_text-then-error-le40.ensures)))

pub returns : goal.returns
unfolding error_text
returns c =
    simp (lt-ltb _ _ c.if-error-le40.false) (at_most (search rules) (then c.put_text.ensures (then c.put_text-2.ensures c.put_decimal.ensures)))
