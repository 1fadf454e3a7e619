-- `plain_mi::type_0::store_other` meets its contract: by the field that the header wants.
-- Assumes nothing.
use mathlib.Core.Path.{ap, ◌∙◌}
use lib.ListN.{get_or}
use borrow.Author.Rules.{rules}
use Rattle.rules.specs.Words.{bit}
use Rattle.plain_shared.specs.Plain.{other_header}
use Rattle.plain_mi.proofs.Stores.{small_field}
use Rattle.plain_mi.proofs.type_0.store_other.Statement.{statement}
use Rattle.plain_mi.proofs.type_0.store_other.Tie as tie

field : tie.Need-other_header-requires
field c κs =
    let start = c.before.before.before in
    (start.requires, small_field (bit (get_or start.args.rest.now 0 0) 21) c.store_field.ensures)

pub store_other_spec : {M : Type 1} → statement M
store_other_spec =
    tie.close
    (tie.spec (λ c. search rules) (λ c κs. search rules) field
    (λ c.
    let start = c.before.before.before.before in
    c.other_header.ensures ∙ ap (other_header start.args.rest.now) c.store_field.ensures))
