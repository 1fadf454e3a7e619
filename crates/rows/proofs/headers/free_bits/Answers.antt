-- The code's table is a column of the definitions' table, computed.
-- Assumes nothing.
use lib.ListN.{get_or-map}
use Rattle.rules.specs.Commands.{Row, rows, the_row}
use Rattle.rows.proofs.headers.free_bits.Goals as goal

pub returns : goal.returns
unfolding rows the_row
returns c = get_or-map (λ (r : Row). r.free) rows c.args.row _
