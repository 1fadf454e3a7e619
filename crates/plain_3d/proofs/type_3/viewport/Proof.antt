-- `plain_3d::type_3::viewport` meets its contract: its row is one of a header and a dword.
-- Assumes nothing.
use mathlib.Core.Path.{refl}
use lib.Dec.{lit≤}
use Rattle.rules.specs.Words.{allowed}
use Rattle.rules.specs.Commands.{viewport_row, rows, the_row}
use Rattle.rules.specs.Uses.{uses_by_row, access_of}
use Rattle.rules.specs.Values.{value_rules, rule_of}
use Rattle.plain_shared.specs.Plain.{no_windows}
use Rattle.plain_3d.proofs.BitsOnly.{PointerRow, points, pointer_decides}
use Rattle.plain_3d.proofs.type_3.viewport.Statement.{statement}
use Rattle.plain_3d.proofs.type_3.viewport.Tie as tie

viewport_row_lem : PointerRow viewport_row 0x78230000 0xFFFFFFE0
unfolding rows the_row value_rules rule_of uses_by_row access_of allowed
viewport_row_lem = points (lit≤ tt) refl refl refl refl refl

pub viewport_spec : {M : Type 1} → statement M
viewport_spec =
    tie.close
    (tie.spec (λ c κs. (c.requires.0, refl)) (λ c. pointer_decides viewport_row_lem no_windows _ c.requires.1 c.pointer.ensures))
