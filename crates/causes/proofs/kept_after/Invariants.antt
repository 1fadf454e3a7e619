-- The position is the one that the first i commands keep.
use Rattle.std.proofs.Common.{◌≡◌}
use lib.ListN.{take}
use Rattle.rules.specs.Records.{commands_in, words_for}
use Rattle.causes.specs.Causes.{kept_after}
use Rattle.causes.proofs.kept_after.Given as goal

abbrev pub invariant-loop-i : goal.invariant-loop-i
invariant-loop-i l = l.kept ≡ kept_after 0 (commands_in (take (words_for l.i) l.records))
