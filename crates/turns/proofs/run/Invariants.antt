-- The loop of `turns::run`: the walk is the commands done, whose words stand in the record buffer, and then what it has still to give from here; beside it, the
-- level that the turn has is its cursor's. The measure is what is left of the room.
use Rattle.std.proofs.Common.{◌≡◌, ◌-◌, ◌≤◌}
use Rattle.rules.specs.Step.{level_number}
use Rattle.step.specs.Parts.{captured}
use Rattle.turns.proofs.Looping.{Going}
use Rattle.turns.proofs.run.Given as goal

abbrev pub invariant-loop-f : goal.invariant-loop-f
invariant-loop-f g l =
    (Going l.initial.turn.cursor.base (captured l.w l.batch l.state) l.fn.records l.records l.n l.turn.cursor) × (l.n ≤ l.room)
    × (l.turn.level ≡ level_number l.turn.cursor.level)

abbrev pub decreases-loop-f : goal.decreases-loop-f
decreases-loop-f g l = l.room - l.n
