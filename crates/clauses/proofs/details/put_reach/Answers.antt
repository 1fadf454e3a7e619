-- `put_reach` meets its contract: the command, its access, how many bytes at which address, and where they should lie.
use Rattle.std.proofs.Common.{rules}
use Rattle.lines.proofs.Putting.{then, at_most}
use Rattle.clauses.specs.Clauses.{reach_text}
use Rattle.clauses.proofs.details.put_reach.Goals as goal

pub returns : goal.returns
unfolding reach_text
returns c =
    let does = rw c.access_words.ensures.words at c.put_both.ensures in
    let should = rw c.within_words.ensures.words at c.put_both-2.ensures in
    let length = then c.put_text.ensures c.put_bytes.ensures in
    at_most (search rules) (then (then (then (then c.put_command.ensures does) length) c.put_address.ensures) should)
