-- No command, or where the last one leads.
use Rattle.std.proofs.Common.{rules}
use mathlib.Core.Path.{◌∙◌}
use Rattle.rules.specs.Records.{commands_in, words_for}
use Rattle.causes.specs.Causes.{stands_after}
use Rattle.causes.proofs.Leading.{stands_at_last}
use Rattle.causes.proofs.position.Goals as goal

pub returns-then-count-eq0 : goal.returns-then-count-eq0
unfolding commands_in words_for stands_after
returns-then-count-eq0 c = rw c.if-count-eq0.true

pub kept_after-requires : goal.kept_after-requires
unfolding words_for
kept_after-requires c = let enough = c.requires in search rules

pub returns : goal.returns
returns c =
    let a = c.args in
    c.leads_to.ensures
    ∙ rw (c.named.ensures.is, c.kept_after.ensures) (stands_at_last a.records.now a.batch.now a.batch_at a.count c.if-count-eq0.false c.requires)
