-- `plain_look::seen_store`: the header is neither of the two.
use Rattle.std.proofs.Common.{refl, ◌∙◌}
use Rattle.plain_mi.proofs.Stores.{other_store}
use Rattle.plain_look.proofs.seen_store.Goals as goal

pub returns-in_default : goal.returns-in_default
returns-in_default c =
    let neither = c.in_default.in_default-own.rest in
    (refl, c.length_by_field.ensures, c.store_other.ensures ∙ other_store _ _ c.requires.1 neither.0.1 neither.1 _ refl)
