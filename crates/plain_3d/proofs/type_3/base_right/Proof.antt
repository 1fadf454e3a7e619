-- `plain_3d::type_3::base_right` meets its contract: bit 0 of the code is that of the definition.
-- Assumes nothing.
use native.Mathlib.Nat.{div-one}
use borrow.Author.Rules.{rules}
use Rattle.plain_3d.proofs.type_3.base_right.Statement.{statement}
use Rattle.plain_3d.proofs.type_3.base_right.Tie as tie

pub base_right_spec : {M : Type 1} → statement M
base_right_spec = tie.close (tie.spec (λ c κs. search rules) (λ c. rw div-one c.high_right.ensures))
