-- What is left of the search has the answer of the whole.
-- Assumes nothing.
use mathlib.Core.Path.{sym, ◌∙◌}
use borrow.Author.Rules.{rules}
use Rattle.words.proofs.Loops.{goes_on, stops_here, comes_to_the_end}
use Rattle.state_values.proofs.ValueRules.{from_two, colour_at}
use Rattle.state_values.proofs.first_colour.Goals as goal

pub loop-k-init : goal.loop-k-init
loop-k-init c = (search rules, search rules, from_two _)

pub returns-then-is_nan : goal.returns-then-is_nan
returns-then-is_nan c =
    sym
    (c.loop-k.invariant.2
    ∙ stops_here _ 6 _ (search rules) (colour_at _ _ (search rules) c.dword.ensures c.is_nan.ensures ∙ c.if-is_nan.true))

pub loop-k-preserved : goal.loop-k-preserved
loop-k-preserved c = (
  search rules,
  search rules,
  c.loop-k.invariant.2
      ∙ goes_on _ 6 _ (search rules) (colour_at _ _ (search rules) c.dword.ensures c.is_nan.ensures ∙ c.if-is_nan.false),
)

pub returns : goal.returns
returns c = sym (c.loop-k.invariant.2 ∙ comes_to_the_end _ 6 _ (search rules))
