-- `plain_shared::heads::high_kept` meets its contract: where the address is not used, the mask decides.
-- Assumes nothing.
use borrow.Author.Rules.{rules}
use Rattle.plain_shared.proofs.heads.high_kept.Statement.{statement}
use Rattle.plain_shared.proofs.heads.high_kept.Tie as tie

pub high_kept_spec : {M : Type 1} → statement M
high_kept_spec = tie.close (tie.spec (λ c κs. search rules) (λ c. search rules) (λ c. rw c.if-used.false c.allowed.ensures))
