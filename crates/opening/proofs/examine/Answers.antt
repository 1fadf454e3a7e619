-- A law of `Opening` for each way out.
use Rattle.std.proofs.Common.{rules}
use mathlib.Core.Path.{sym, ◌∙◌}
use Rattle.opening.proofs.Opening.{wrong_size, wrong_distance, wrong_counts, no_room, all_right}
use Rattle.opening.proofs.examine.Goals as goal

pub returns-then-not-contains : goal.returns-then-not-contains
returns-then-not-contains c = wrong_size _ _ _ (search rules)

pub returns-then-distance_wrong : goal.returns-then-distance_wrong
returns-then-distance_wrong c =
    wrong_distance _ _ _ (search rules) c.of-trailer.ensures (sym c.distance_wrong.ensures ∙ c.if-distance_wrong.true)

pub returns-then-counts_wrong : goal.returns-then-counts_wrong
returns-then-counts_wrong c =
    wrong_counts _ _ _ (search rules) c.of-trailer.ensures (sym c.distance_wrong.ensures ∙ c.if-distance_wrong.false)
    (sym c.counts_wrong.ensures ∙ c.if-counts_wrong.true)

pub returns-then-buffer_short : goal.returns-then-buffer_short
returns-then-buffer_short c =
    no_room _ _ _ (search rules) c.of-trailer.ensures (sym c.distance_wrong.ensures ∙ c.if-distance_wrong.false)
    (sym c.counts_wrong.ensures ∙ c.if-counts_wrong.false) (sym c.buffer_short.ensures ∙ c.if-buffer_short.true)

pub returns : goal.returns
returns c =
    all_right _ _ _ (search rules) c.of-trailer.ensures (sym c.distance_wrong.ensures ∙ c.if-distance_wrong.false)
    (sym c.counts_wrong.ensures ∙ c.if-counts_wrong.false) (sym c.buffer_short.ensures ∙ c.if-buffer_short.false) c.contents.ensures
