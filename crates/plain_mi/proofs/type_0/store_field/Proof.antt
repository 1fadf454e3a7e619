-- `plain_mi::type_0::store_field` meets its contract: the test is the bit.
-- Assumes nothing.
use borrow.Author.Tests.{eq-eqb, ne_eqb}
use Rattle.plain_mi.proofs.type_0.store_field.Statement.{statement}
use Rattle.plain_mi.proofs.type_0.store_field.Tie as tie

pub store_field_spec : {M : Type 1} → statement M
store_field_spec = tie.close (tie.spec (λ c. rw (eq-eqb _ _ c.if-header-eq1.true)) (λ c. rw (ne_eqb _ _ c.if-header-eq1.false)))
