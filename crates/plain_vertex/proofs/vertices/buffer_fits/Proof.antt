-- `plain_vertex::vertices::buffer_fits` meets its contract: it has no address, or its range fits or does not.
-- Assumes nothing.
use borrow.Author.Rules.{rules}
use Prim.Native.Nat.{◌+◌}
use mathlib.Core.Path.{sym, ap, ◌∙◌}
use mathlib.Core.Bool.{not}
use lib.ListN.{get_or}
use Rattle.rules.specs.declared.Access.TheVariants.{Unused}
use Rattle.rules.specs.Uses.{sized}
use Rattle.plain_vertex.proofs.BufferRanges.{with_address, without_address, range_is}
use Rattle.plain_vertex.proofs.vertices.buffer_fits.Statement.{statement}
use Rattle.plain_vertex.proofs.vertices.buffer_fits.Tie as tie

none : tie.Need-returns-then-d-k-ne2
none c =
    let start = c.before.before.before in
    sym (ap not (range_is _ _ start.args.k start.requires {a = Unused} (rw (without_address _ c.if-d-k-ne2.true))))

fits : tie.Need-returns
fits c =
    let used = c.before.before.before.before in
    let start = used.before.before.before in
    let size = get_or start.args.d.now (start.args.k + 3) 0 in
    c.sized_fits.ensures
    ∙ sym (ap not (range_is _ _ start.args.k start.requires {a = sized size} (rw (with_address _ used.if-d-k-ne2.false))))

pub buffer_fits_spec : {M : Type 1} → statement M
buffer_fits_spec =
    tie.close
    (tie.spec (λ c. search rules) (λ c. search rules) none (λ c. search rules) (λ c. search rules) (λ c. search rules)
    (λ c. search rules) (λ c. search rules) (λ c. search rules) (λ c. search rules) (λ c. search rules)
    (λ c. search rules) (λ c κs. search rules) fits)
