-- `standing` meets its contract: the rows are tried one behind the other, and the first that fits tells.
use Rattle.std.proofs.Common.{rules, sym, ◌∙◌}
use Rattle.names.specs.Names.{characters}
use Rattle.names.proofs.Trying.{try_starts, try_goes_on, try_finds, try_ends}
use Rattle.names.proofs.standing.Goals as goal

pub loop-row-init : goal.loop-row-init
loop-row-init c = try_starts c.byte_at-a.ensures c.byte_at-b.ensures c.byte_at-c.ensures c.byte_at-d.ensures

pub loop-row-preserved : goal.loop-row-preserved
unfolding characters
loop-row-preserved c = try_goes_on c.loop-row.invariant (search rules) (sym c.fits.ensures ∙ c.if-fits.false)

pub returns-then-fits : goal.returns-then-fits
unfolding characters
returns-then-fits c = try_finds c.loop-row.invariant (search rules) (sym c.fits.ensures ∙ c.if-fits.true)

pub returns : goal.returns
returns c = try_ends c.loop-row.invariant (search rules)
