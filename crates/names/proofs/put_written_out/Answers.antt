-- `put_written_out` meets its contract: two backslashes, or two digits.
use Rattle.std.proofs.Common.{rules}
use borrow.Author.Tests.{eq-eqb, ne_eqb}
use Rattle.lines.proofs.Putting.{then, at_most}
use Rattle.names.specs.Names.{written_out}
use Rattle.names.proofs.put_written_out.Goals as goal

pub returns-then-byte-eq92 : goal.returns-then-byte-eq92
unfolding written_out
returns-then-byte-eq92 c = simp (eq-eqb _ _ c.if-byte-eq92.true) (at_most (search rules) c.put_text.ensures)

pub returns : goal.returns
unfolding written_out
returns c = simp (ne_eqb _ _ c.if-byte-eq92.false) (then c.put_text-2.ensures c.put_hex.ensures)
