-- `plain_vertex::vertices::address_good` meets its contract: of an address that is not used the mask of its high dword decides, and of one that is used
-- its form and its range.
-- Assumes nothing.
use mathlib.Core.Path.{sym, ◌∙◌}
use borrow.Author.Rules.{rules}
use Rattle.plain_vertex.proofs.vertices.address_good.Statement.{statement}
use Rattle.plain_vertex.proofs.vertices.address_good.Tie as tie

unused : tie.Need-returns-then-not-buffer_used
unused c =
    let off = c.before.before in
    rw (sym off.buffer_used.ensures ∙ off.if-not-buffer_used.true) c.allowed.ensures

not_canonical : tie.Need-returns-then-not-canonical
not_canonical c =
    let high = c.before in
    let on = high.before.before in
    rw (sym on.buffer_used.ensures ∙ on.if-not-buffer_used.false, sym high.canonical.ensures ∙ c.if-not-canonical.true)

used : tie.Need-returns
used c =
    let high = c.before.before in
    let on = high.before.before in
    rw (sym on.buffer_used.ensures ∙ on.if-not-buffer_used.false, sym high.canonical.ensures ∙ c.if-not-canonical.false)
    c.buffer_fits.ensures

pub address_good_spec : {M : Type 1} → statement M
address_good_spec =
    tie.close
    (tie.spec (λ c κs. search rules) (λ c. search rules) (λ c. search rules) (λ c. search rules) (λ c κs. search rules) unused
    (λ c. search rules) (λ c. search rules) (λ c. search rules) (λ c κs. search rules) not_canonical (λ c κs. search rules) used)
