-- `table_look::seen` meets its contract: one law for each way out, in the order of the checks.
use Rattle.std.proofs.Common.{rules, ◌≡◌, ◌+◌, ◌-◌, ◌≤◌, length, Err, Ok}
use mathlib.Core.Path.{refl, sym, ◌∙◌}
use native.Mathlib.Omega.{arith}
use Rattle.rules.specs.Step.{row_at, length_at}
use Rattle.looks.specs.Looks.{Look}
use Rattle.looks.proofs.LookLaws.{content_look, whole_look}
use Rattle.table_look.proofs.Contents.{length_is, right_is, content_same, unfit_look, right_passed, long_passed, whole_part, part_below}
use Rattle.table_look.proofs.seen.Goals as goal

pub returns-then-right-batch : goal.returns-then-right-batch
returns-then-right-batch c =
    let counted = length_is c.args.batch.now c.args.at c.requires.1 c.length_of-length.ensures in
    let right = right_is c.args.batch.now c.args.at c.requires.1 c.length_right-right.ensures refl in
    rw (c.in_batch.ensures, c.misfit.ensures)
    (unfit_look _ _ _ _ (omega (arith, c.requires.1, c.requires.2)) c.length_right-right.result right (rw (← counted) c.if-right-batch.true))

pub content_fault-requires : goal.content_fault-requires
content_fault-requires c =
    let room : c.length_of-length.result ≤ length c.args.batch.now - c.args.at = long_passed _ _ _ c.if-right-batch.false in
    let within : c.args.at + c.length_of-length.result ≤ length c.args.batch.now = omega (arith, room, c.requires.0) in
    let right = right_passed c.length_right-right.result _ c.if-right-batch.false in (
      c.requires.2,
      whole_part c.args.batch.now c.args.at c.requires.2 (sym c.length_right-right.ensures ∙ right) c.length_of-length.ensures within,
      omega (arith, part_below c.args.batch.now c.args.at c.length_of-length.result within, c.ranges.at.fits),
    )

pub returns-in_err-content_fault : goal.returns-in_err-content_fault
returns-in_err-content_fault c =
    let counted = length_is c.args.batch.now c.args.at c.requires.1 c.length_of-length.ensures in
    let room : c.length_of-length.result ≤ length c.args.batch.now - c.args.at = long_passed _ _ _ c.if-right-batch.false in
    let right =
    right_is c.args.batch.now c.args.at c.requires.1 c.length_right-right.ensures refl ∙ right_passed c.length_right-right.result _ c.if-right-batch.false in
    let stopped : ◌≡◌ {A = Look} c.from_residual.result (Err c.in_err-content_fault.field-0.0) = search rules in
    stopped
    ∙ content_look _ _ _ _ (omega (arith, c.requires.1, c.requires.2)) right (omega (arith, counted, room, c.requires.0))
    (sym (content_same _ c.args.batch.now c.args.at _ c.requires.1 counted) ∙ sym c.content_fault.ensures ∙ c.in_err-content_fault.was)

pub returns : goal.returns
returns c =
    let counted = length_is c.args.batch.now c.args.at c.requires.1 c.length_of-length.ensures in
    let room : c.length_of-length.result ≤ length c.args.batch.now - c.args.at = long_passed _ _ _ c.if-right-batch.false in
    let right =
    right_is c.args.batch.now c.args.at c.requires.1 c.length_right-right.ensures refl ∙ right_passed c.length_right-right.result _ c.if-right-batch.false in
    let whole : ◌≡◌ {A = Look} (Ok (c.args.row, c.length_of-length.result)) (Ok (row_at c.args.batch.now c.args.at, length_at c.args.batch.now c.args.at)) =
    rw (c.requires.1, counted) in
    whole
    ∙ whole_look _ _ _ _ (omega (arith, c.requires.1, c.requires.2)) right (omega (arith, counted, room, c.requires.0))
    (sym (content_same _ c.args.batch.now c.args.at _ c.requires.1 counted) ∙ sym c.content_fault.ensures ∙ c.in_ok-content_fault.was)
