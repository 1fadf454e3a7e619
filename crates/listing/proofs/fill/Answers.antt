-- No record, and one record more.
use Rattle.std.proofs.Common.{rules}
use Rattle.listing.proofs.Filling.{fill_starts, fill_goes_on}
use Rattle.listing.proofs.fill.Goals as goal

pub loop-i-init : goal.loop-i-init
loop-i-init c = fill_starts c.requires

pub loop-i-preserved : goal.loop-i-preserved
loop-i-preserved c = rw (c.second_word.ensures, c.first_word.ensures) (fill_goes_on c.loop-i.invariant (search rules))
