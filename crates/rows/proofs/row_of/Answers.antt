-- An arm for each key of type 0, and the other rows for any other header.
-- Assumes nothing.
use mathlib.Core.Path.{◌∙◌}
use lib.Dec.{lit<}
use borrow.Author.Rules.{rules}
use Rattle.rules.specs.Commands.{rows, row_from}
use Rattle.rules.proofs.Keys.{key_0, key_3}
use Rattle.rows.proofs.row_of.Goals as goal

pub returns-in-0 : goal.returns-in-0
unfolding rows row_from
returns-in-0 c = key_0 _ _ c.in-0.is (lit< tt)

pub returns-in-10 : goal.returns-in-10
unfolding rows row_from
returns-in-10 c = key_0 _ _ c.in-10.is (lit< tt)

pub returns-in-49 : goal.returns-in-49
unfolding rows row_from
returns-in-49 c = key_0 _ _ c.in-49.is (lit< tt)

pub returns-in-34 : goal.returns-in-34
unfolding rows row_from
returns-in-34 c = key_0 _ _ c.in-34.is (lit< tt)

pub returns-in-32 : goal.returns-in-32
unfolding rows row_from
returns-in-32 c = key_0 _ _ c.in-32.is (lit< tt)

pub returns-in-36 : goal.returns-in-36
unfolding rows row_from
returns-in-36 c = key_0 _ _ c.in-36.is (lit< tt)

pub returns-in-41 : goal.returns-in-41
unfolding rows row_from
returns-in-41 c = key_0 _ _ c.in-41.is (lit< tt)

pub returns-in_default : goal.returns-in_default
unfolding rows row_from
returns-in_default c = c.row_of_type_3.ensures ∙ key_3 _ (search rules) c.in_default.in_default-own.rest
