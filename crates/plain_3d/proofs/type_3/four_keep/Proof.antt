-- `plain_3d::type_3::four_keep` meets its contract: the code is the definition.
-- Assumes nothing.
use mathlib.Core.Bool.{and-true}
use borrow.Author.Rules.{rules}
use Rattle.plain_3d.specs.Usual.{all_keep}
use Rattle.plain_3d.proofs.type_3.four_keep.Statement.{statement}
use Rattle.plain_3d.proofs.type_3.four_keep.Tie as tie

returns : tie.Need-returns
unfolding all_keep
returns c =
    simp (c.allowed.ensures, c.allowed-2.ensures, c.allowed-3.ensures, c.allowed-4.ensures, and-true)

pub four_keep_spec : {M : Type 1} → statement M
four_keep_spec = tie.close (tie.spec (λ c κs. search rules) (λ c κs. search rules) (λ c κs. search rules) (λ c κs. search rules) returns)
