-- Where an accepted command leads.
use Rattle.std.specs.Prelude.{ℕ, ◌-◌, ◌/◌, cond, List, get_or, eqb, Option, Some}
use Rattle.rules.specs.declared.Cursor.{Cursor}
use Rattle.rules.specs.Commands.{end_row, start_row}
use Rattle.rules.specs.Uses.{address_at}
use Rattle.rules.specs.Step.{cursor, after_end, level_after_start, base_after}

-- the move, of the batch window's address alone
unfoldable pub move_from : ℕ → Cursor → ℕ → List ℕ → ℕ → Option Cursor
move_from at s r d next =
    cond (eqb r end_row) (after_end s.level s.base)
    (cond (eqb r start_row) (Some (cursor ((address_at d 1 - at) / 4) (level_after_start (get_or d 0 0) next s.level) s.base))
    (Some (cursor next s.level (base_after r d s.base))))
