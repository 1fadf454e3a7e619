-- `plain_vertex::codes::known_format` meets its contract: the code's bit in its word.
-- Assumes nothing.
use borrow.Author.Rules.{rules}
use Rattle.plain_vertex.proofs.FormatWords.{bit_known}
use Rattle.plain_vertex.proofs.codes.known_format.Statement.{statement}
use Rattle.plain_vertex.proofs.codes.known_format.Tie as tie

known : tie.Need-returns
known c = bit_known c.args.code c.format_word.ensures

pub known_format_spec : {M : Type 1} → statement M
known_format_spec = tie.close (tie.spec (λ c κs. search rules) (λ c. search rules) (λ c. search rules) known)
