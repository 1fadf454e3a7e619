-- `plain_shared::heads::sized_fits` meets its contract: a size of 0 reaches nothing.
-- Assumes nothing.
use mathlib.Core.Bool.{not-not}
use borrow.Author.Rules.{rules}
use borrow.Author.Tests.{eq-eqb, ne_eqb}
use Rattle.plain_shared.proofs.heads.sized_fits.Statement.{statement}
use Rattle.plain_shared.proofs.heads.sized_fits.Tie as tie

unused : tie.Need-returns-then-size-eq0
unused c = rw (eq-eqb _ _ c.if-size-eq0.true)

somewhere : tie.Need-returns
somewhere c =
    let made = c.before in
    rw (ne_eqb _ _ made.if-size-eq0.false, not-not, ← made.address_of.ensures) c.anywhere.ensures

pub sized_fits_spec : {M : Type 1} → statement M
sized_fits_spec = tie.close (tie.spec unused (λ c κs. search rules) (λ c κs. search rules) somewhere)
