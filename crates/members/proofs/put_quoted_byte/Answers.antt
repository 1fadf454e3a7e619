-- `put_quoted_byte` meets its contract for a control byte, which is put by its digits; a mark and any other byte are laws of proofs/Escaping. No name here
-- holds a byte that the code asks for, so that an edit of such a test is refused for what would be put.
use Rattle.std.proofs.Common.{rules}
use borrow.Author.Tests.{lt-ltb}
use Rattle.lines.proofs.Putting.{then}
use Rattle.members.specs.Strings.{quoted_byte}
use Rattle.members.proofs.put_quoted_byte.Goals as goal

pub returns-then-control : goal.returns-then-control
unfolding quoted_byte
returns-then-control c = simp (lt-ltb c.args.byte 0x20 (search rules)) (then c.put_text.ensures c.put_hex.ensures)
