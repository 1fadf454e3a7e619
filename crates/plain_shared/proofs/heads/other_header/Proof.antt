-- `plain_shared::heads::other_header` meets its contract: one test after the other.
-- Assumes nothing.
use borrow.Author.Rules.{rules}
use borrow.Author.Tests.{eq-eqb, ne_eqb, lt-ltb, le-ltb}
use Rattle.rules.specs.Refusals.{number_of}
use Rattle.plain_shared.specs.Plain.{head_of}
use Rattle.plain_shared.proofs.heads.other_header.Statement.{statement}
use Rattle.plain_shared.proofs.heads.other_header.Tie as tie

pub other_header_spec : {M : Type 1} → statement M
unfolding head_of number_of
other_header_spec =
    tie.close
    (tie.spec (λ c. search rules) (λ c κs. search rules)
    (λ c. rw (ne_eqb _ _ c.if-rest-field.true) c.at.ensures)
    (λ c. search rules) (λ c κs. search rules)
    (λ c. rw (eq-eqb _ _ c.if-rest-field.false, lt-ltb _ _ c.if-rest-field-2.true) c.at-then-rest-field-2.ensures)
    (λ c κs. search rules)
    (λ c. rw (eq-eqb _ _ c.if-rest-field.false, le-ltb _ _ c.if-rest-field-2.false) c.at-2.ensures))
