-- What is left of the search has the answer of the whole, and each turn passes one entry.
-- Assumes nothing.
use mathlib.Core.Path.{sym, ◌∙◌}
use borrow.Author.Rules.{rules}
use Rattle.words.proofs.Loops.{stops_here, comes_to_the_end}
use Rattle.state_values.proofs.BlendRules.{from_one, entry_at, entry_passed}
use Rattle.state_values.proofs.blend.first_entry.Goals as goal

pub loop-k-init : goal.loop-k-init
loop-k-init c = (search rules, search rules, from_one _)

pub returns-then-entry_wrong : goal.returns-then-entry_wrong
returns-then-entry_wrong c =
    let i = c.loop-k.invariant in
    sym (i.2 ∙ stops_here _ 17 _ (search rules) (entry_at _ _ i.0 c.dword.ensures c.entry_wrong.ensures ∙ c.if-entry_wrong.true))

pub loop-k-preserved : goal.loop-k-preserved
loop-k-preserved c =
    let i = c.loop-k.invariant in (
      search rules,
      search rules,
      i.2 ∙ entry_passed _ _ i.0 (search rules) (entry_at _ _ i.0 c.dword.ensures c.entry_wrong.ensures ∙ c.if-entry_wrong.false),
    )

pub returns : goal.returns
returns c = sym (c.loop-k.invariant.2 ∙ comes_to_the_end _ 17 _ (search rules))
