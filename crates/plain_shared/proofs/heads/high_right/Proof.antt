-- `plain_shared::heads::high_right` meets its contract: where the address is used, its form decides.
-- Assumes nothing.
use mathlib.Core.Bool.{not-not}
use borrow.Author.Rules.{rules}
use Rattle.plain_shared.proofs.heads.high_right.Statement.{statement}
use Rattle.plain_shared.proofs.heads.high_right.Tie as tie

pub high_right_spec : {M : Type 1} → statement M
high_right_spec =
    tie.close
    (tie.spec (λ c κs. search rules) (λ c. rw (c.if-not-used.true))
    (λ c. let used = c.before in rw (used.if-not-used.false, not-not) c.canonical.ensures))
