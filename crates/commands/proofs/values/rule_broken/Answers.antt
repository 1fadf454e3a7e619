-- A start's rule, where the row is the start's.
-- Assumes nothing.
use Rattle.rules.specs.Values.{value_rules, rule_of}
use Rattle.commands.proofs.values.rule_broken.Goals as goal

pub returns-in-2 : goal.returns-in-2
unfolding value_rules rule_of
returns-in-2 c = rw c.in-2.is c.start_wrong.ensures
