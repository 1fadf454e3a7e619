-- Both refusals are asked before anything is written, and what they leave is turned.
use mathlib.Core.Path.{refl, sym, ◌∙◌}
use Rattle.listing.proofs.Judging.{stray_fails, full_fails, has_room, none_fails, as_judged}
use Rattle.listing.proofs.turn.Goals as goal

pub returns-in-Some : goal.returns-in-Some
returns-in-Some c = as_judged _ (stray_fails _ _ (sym c.first_stray.ensures ∙ c.in-Some.is)) c.refused.ensures refl

pub returns-then-new-old : goal.returns-then-new-old
returns-then-new-old c =
    as_judged _ (full_fails _ _ (sym c.first_stray.ensures ∙ c.in_default.is) c.if-new-old.true) c.refused-then-new-old.ensures refl

pub fill-requires : goal.fill-requires
fill-requires c = has_room c.args.old.now _ c.if-new-old.false

pub returns : goal.returns
returns c = as_judged _ (none_fails _ _ (sym c.first_stray.ensures ∙ c.in_default.is) c.if-new-old.false) refl c.fill.ensures
