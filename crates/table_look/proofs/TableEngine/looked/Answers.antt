-- `looked` of the table engine meets its contract: past the table's rows there is none.
use native.Mathlib.Omega.{arith}
use Rattle.rules.specs.Commands.{row_count}
use Rattle.rows.proofs.RowLaws.{past}
use Rattle.looks.proofs.LookLaws.{unknown_look}
use Rattle.table_look.proofs.TableEngine.looked.Goals as goal

pub returns-in_default : goal.returns-in_default
returns-in_default c = rw c.in_batch.ensures (unknown_look _ _ _ _ (omega (arith, past row_count _ c.in_default.in_default-own.rest, c.row_of.ensures)))
