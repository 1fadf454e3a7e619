-- `plain_3d::type_3::high_mask` meets its contract: bit 0 of the code is that of the definition.
-- Assumes nothing.
use native.Mathlib.Nat.{div-one}
use borrow.Author.Tests.{eq-eqb, ne_eqb}
use Rattle.plain_3d.proofs.type_3.high_mask.Statement.{statement}
use Rattle.plain_3d.proofs.type_3.high_mask.Tie as tie

pub high_mask_spec : {M : Type 1} → statement M
high_mask_spec =
    tie.close (tie.spec (λ c. simp (eq-eqb _ 1 c.if-low-eq1.true, div-one)) (λ c. simp (ne_eqb _ 1 c.if-low-eq1.false, div-one)))
