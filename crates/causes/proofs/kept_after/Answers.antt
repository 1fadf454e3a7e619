-- No command, and one command more.
use Rattle.std.proofs.Common.{rules}
use mathlib.Core.Path.{refl, ◌∙◌}
use Rattle.rules.specs.Records.{commands_in, words_for}
use Rattle.causes.specs.Causes.{kept_after}
use Rattle.causes.proofs.Leading.{next_kept}
use Rattle.causes.proofs.kept_after.Goals as goal

pub loop-i-init : goal.loop-i-init
unfolding kept_after commands_in words_for
loop-i-init c = refl

pub named-requires : goal.named-requires
unfolding words_for
named-requires c = let enough = c.requires in search rules

pub loop-i-preserved : goal.loop-i-preserved
unfolding words_for
loop-i-preserved c =
    c.kept_by-kept.ensures ∙ rw (c.named.ensures.is, c.loop-i.invariant) (next_kept _ c.loop-i.i (let enough = c.requires in search rules))
