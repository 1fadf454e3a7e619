-- `fits` meets its contract: where a byte lies in no range, the character does not fit.
use Rattle.std.proofs.Common.{arith}
use Rattle.std.proofs.lemmas.Grind.{common_steps}
use Rattle.names.specs.Names.{fits}
use Rattle.names.proofs.fits.Goals as goal
use Rattle.names.proofs.fits.Goals.{then-contains, else-contains, then-contains-2, else-contains-2}

pub returns-else-contains-3 : goal.returns-else-contains-3
unfolding fits
returns-else-contains-3 c =
    elim c.if-contains-2.branch [
      | then-contains-2 w ↦ elim c.if-contains.branch [ then-contains v ↦ grind (arith, common_steps) | else-contains v ↦ grind (arith, common_steps) ]
      | else-contains-2 w ↦ elim c.if-contains.branch [ then-contains v ↦ grind (arith, common_steps) | else-contains v ↦ grind (arith, common_steps) ]
    ]
