-- `put_quoted` meets its contract: a byte more is quoted in each turn.
use Rattle.std.proofs.Common.{rules, arith}
use Rattle.lines.proofs.Pieces.{left_over}
use Rattle.members.proofs.Quoting.{quote_starts, quote_goes_on, quote_ends}
use Rattle.members.proofs.put_quoted.Goals as goal

pub loop-byte-init : goal.loop-byte-init
loop-byte-init c = quote_starts _ _

pub put_quoted_byte-requires : goal.put_quoted_byte-requires
put_quoted_byte-requires c = omega (arith, c.loop-byte.invariant.puts.as_long, left_over c.loop-byte.invariant)

pub loop-byte-preserved : goal.loop-byte-preserved
loop-byte-preserved c = quote_goes_on _ _ _ _ _ c.loop-byte.invariant (search rules) c.put_quoted_byte.ensures

pub returns : goal.returns
returns c = quote_ends _ _ _ _ c.loop-byte.invariant (search rules)
