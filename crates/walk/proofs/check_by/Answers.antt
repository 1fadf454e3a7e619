-- `walk::check_by` meets its promise: 1 to 4 come first, and then the run.
use Rattle.std.proofs.Common.{rules}
use mathlib.Core.Path.{◌∙◌}
use native.Mathlib.Omega.{arith}
use Rattle.rules.specs.Windows.{lengths_of}
use Rattle.rules.proofs.Places.{window_place}
use Rattle.rules.proofs.Ranges.{counted}
use Rattle.walk.specs.Lent.{lent_capture}
use Rattle.walk.proofs.Calling.{judged, unsound, sound, fitting, captured_is, chosen_small}
use Rattle.walk.proofs.check_by.Goals as goal

pub refusal-requires : goal.refusal-requires
refusal-requires g c =
    let place = window_place _ _ (judged _ c.windows_of-w.ensures c.sound.ensures ∙ c.in-Err.is) in
    (omega (arith, place.0), omega (arith, place.1), search rules)

pub returns-in-Err : goal.returns-in-Err
returns-in-Err g c = rw c.refusal.ensures (unsound _ _ _ (judged _ c.windows_of-w.ensures c.sound.ensures ∙ c.in-Err.is))

pub run-requires : goal.run-requires
run-requires g c =
    let a = c.args in
    let lent = lent_capture a.batch.now a.batch_at a.state.now a.state_at a.scratch_at a.scratch_len in
    let passed = judged lent c.windows_of-w.ensures c.sound.ensures ∙ c.in_default.is in
    let lengths = counted (lengths_of lent) passed in
    (fitting lent c.windows_of-w.ensures, lengths.batch, lengths.state, rw c.starting_base-base.ensures (chosen_small a.choice lent passed))

pub returns : goal.returns
returns g c =
    let a = c.args in
    let lent = lent_capture a.batch.now a.batch_at a.state.now a.state_at a.scratch_at a.scratch_len in
    let passed = judged lent c.windows_of-w.ensures c.sound.ensures ∙ c.in_default.is in
    sound _ _ _ passed c.starting_base-base.ensures (rw (captured_is lent c.windows_of-w.ensures) at c.run.ensures)
