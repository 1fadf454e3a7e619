-- `turns::run` meets its contract: each way out of a turn, and the turn itself, is a law of Looping.
use Rattle.std.proofs.Common.{rules, ◌≡◌, ◌+◌, ◌*◌, ◌<◌, length, Option, Some, Ok}
use native.Mathlib.Omega.{arith}
use mathlib.Core.Path.{sym, ap, ◌∙◌}
use Rattle.rules.specs.declared.Command.{Command}
use Rattle.rules.specs.declared.Cursor.{Cursor}
use Rattle.rules.specs.Step.{Outcome}
use Rattle.rules.proofs.Recording.{fits_record}
use Rattle.rules.proofs.Listing.{room_is}
use Rattle.turns.proofs.Looping.{started, from_start, stops, refused, full, last, next, none_left_there, some_left, level_is}
use Rattle.turns.proofs.Looping.{small_place, small_at, tail_written}
use Rattle.turns.proofs.run.Goals as goal

-- a step that takes a command and leads there
abbrev to : Command → Option Cursor → Outcome
to k after = Ok (k, after)

pub loop-f-init : goal.loop-f-init
loop-f-init g c = (started _ _ (c.turn_at-turn.ensures.0 ∙ c.started.ensures) c.requires.3, omega arith, c.turn_at-turn.ensures.1)

pub step-requires : goal.step-requires
step-requires g c = (c.requires.0, c.loop-f.invariant.0.small)

pub stopped-requires : goal.stopped-requires
stopped-requires g c =
    let place = small_place c.loop-f.invariant.0 c.requires.1 c.requires.2 (sym c.step.ensures ∙ c.in-Err.is) in
    (place.0, place.1, (small_at c.loop-f.invariant.0 c.requires.1).1, place.2)

pub returns-in-Err : goal.returns-in-Err
returns-in-Err g c =
    let going = c.loop-f.invariant.0 in
    rw c.stopped.ensures
    (from_start (c.turn_at-turn.ensures.0 ∙ c.started.ensures) (stops going _ (λ h. refused going h (sym c.step.ensures ∙ c.in-Err.is))))

pub returns-then-n-room : goal.returns-then-n-room
returns-then-n-room g c =
    let going = c.loop-f.invariant.0 in
    rw (c.stopped-then-n-room.ensures, c.full.ensures)
    (from_start (c.turn_at-turn.ensures.0 ∙ c.started.ensures)
    (stops going _ (λ h. full going h (none_left_there going c.room_in-room.ensures c.if-n-room.true h) (sym c.step.ensures ∙ c.in-Ok.is))))

pub slice_bounds-write_record-count : goal.slice_bounds-write_record-count
slice_bounds-write_record-count g c =
    let left = some_left c.loop-f.invariant.0 c.room_in-room.ensures c.loop-f.invariant.1 c.if-n-room.false in
    omega (arith, left.2, room_is (length c.loop-f.records))

pub slice_bounds-write_record-start : goal.slice_bounds-write_record-start
slice_bounds-write_record-start g c =
    let left = some_left c.loop-f.invariant.0 c.room_in-room.ensures c.loop-f.invariant.1 c.if-n-room.false in
    let within : 2 * c.loop-f.n + 1 < length c.loop-f.records = omega (arith, left.2, room_is (length c.loop-f.records)) in
    search rules

pub write_record-requires : goal.write_record-requires
write_record-requires g c =
    let left = some_left c.loop-f.invariant.0 c.room_in-room.ensures c.loop-f.invariant.1 c.if-n-room.false in
    let within : 2 * c.loop-f.n + 1 < length c.loop-f.records = omega (arith, left.2, room_is (length c.loop-f.records)) in
    let took = sym c.step.ensures ∙ c.in-Ok.is in
    (search rules, fits_record _ _ c.requires.1 took, c.loop-f.invariant.2 ∙ level_is c.loop-f.invariant.0 took)

pub returns-in-None : goal.returns-in-None
returns-in-None g c =
    let left = some_left c.loop-f.invariant.0 c.room_in-room.ensures c.loop-f.invariant.1 c.if-n-room.false in
    rw (c.acceptance.ensures, c.write_record.ensures, tail_written _ _ _ left.2)
    (from_start (c.turn_at-turn.ensures.0 ∙ c.started.ensures)
    (last c.loop-f.invariant.0 left.0 left.1 (sym c.step.ensures ∙ c.in-Ok.is ∙ ap (to c.in-Ok.command) c.in-None.is)))

pub returns-then-n-room-2 : goal.returns-then-n-room-2
returns-then-n-room-2 g c =
    let going = c.loop-f.invariant.0 in
    rw (c.stopped-then-n-room-2.ensures, c.full-then-n-room-2.ensures)
    (from_start (c.turn_at-turn.ensures.0 ∙ c.started.ensures)
    (stops going _ (λ h. full going h (none_left_there going c.room_in-room.ensures c.if-n-room-2.true h) (sym c.step.ensures ∙ c.in-Ok.is))))

pub slice_bounds-write_record-count-in-Some : goal.slice_bounds-write_record-count-in-Some
slice_bounds-write_record-count-in-Some g c =
    let left = some_left c.loop-f.invariant.0 c.room_in-room.ensures c.loop-f.invariant.1 c.if-n-room-2.false in
    omega (arith, left.2, room_is (length c.loop-f.records))

pub slice_bounds-write_record-start-in-Some : goal.slice_bounds-write_record-start-in-Some
slice_bounds-write_record-start-in-Some g c =
    let left = some_left c.loop-f.invariant.0 c.room_in-room.ensures c.loop-f.invariant.1 c.if-n-room-2.false in
    let within : 2 * c.loop-f.n + 1 < length c.loop-f.records = omega (arith, left.2, room_is (length c.loop-f.records)) in
    search rules

pub write_record-requires-in-Some : goal.write_record-requires-in-Some
write_record-requires-in-Some g c =
    let left = some_left c.loop-f.invariant.0 c.room_in-room.ensures c.loop-f.invariant.1 c.if-n-room-2.false in
    let within : 2 * c.loop-f.n + 1 < length c.loop-f.records = omega (arith, left.2, room_is (length c.loop-f.records)) in
    let took = sym c.step.ensures ∙ c.in-Ok.is in
    (search rules, fits_record _ _ c.requires.1 took, c.loop-f.invariant.2 ∙ level_is c.loop-f.invariant.0 took)

pub loop-f-preserved : goal.loop-f-preserved
loop-f-preserved g c =
    let left = some_left c.loop-f.invariant.0 c.room_in-room.ensures c.loop-f.invariant.1 c.if-n-room-2.false in
    let there : c.in-Ok.after ≡ Some c.turn_at-turn-in-Some.result.cursor = c.in-Some.is ∙ ap Some (sym c.turn_at-turn-in-Some.ensures.0) in
    let going = next c.loop-f.invariant.0 left.0 left.1 (sym c.step.ensures ∙ c.in-Ok.is ∙ ap (to c.in-Ok.command) there) in
    (rw (c.write_record-in-Some.ensures, tail_written _ _ _ left.2) going, omega (arith, left.3), c.turn_at-turn-in-Some.ensures.1)
