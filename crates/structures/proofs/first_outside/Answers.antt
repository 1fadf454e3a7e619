-- What is left of the search has the answer of the whole.
-- Assumes nothing.
use mathlib.Core.Path.{sym, ap, ◌∙◌}
use mathlib.Core.Bool.{not}
use borrow.Author.Rules.{rules}
use Rattle.words.proofs.Loops.{from_the_start, goes_on, stops_here, comes_to_the_end}
use Rattle.structures.proofs.BitRules.{bit_at}
use Rattle.structures.proofs.first_outside.Goals as goal

pub loop-k-init : goal.loop-k-init
loop-k-init c = (search rules, from_the_start _ _)

pub returns-then-not-allowed : goal.returns-then-not-allowed
returns-then-not-allowed c =
    sym
    (c.loop-k.invariant.1
    ∙ stops_here _ _ _ (search rules) (bit_at _ _ _ _ c.dword.ensures c.in_group.ensures.0 c.allowed.ensures ∙ ap not c.if-not-allowed.true))

pub loop-k-preserved : goal.loop-k-preserved
loop-k-preserved c = (
  search rules,
  c.loop-k.invariant.1
      ∙ goes_on _ _ _ (search rules) (bit_at _ _ _ _ c.dword.ensures c.in_group.ensures.0 c.allowed.ensures ∙ ap not c.if-not-allowed.false),
)

pub returns : goal.returns
returns c = sym (c.loop-k.invariant.1 ∙ comes_to_the_end _ _ _ (search rules))
