-- The refusals are judged before anything is written, and what they leave is put.
use mathlib.Core.Path.{sym, ◌∙◌}
use Rattle.rules.proofs.Writing.{row_known, count_known, free_kept, has_room}
use Rattle.writer.proofs.Judging.{refused_place, put_passed}
use Rattle.writer.proofs.write.Goals as goal

pub refusal-requires : goal.refusal-requires
refusal-requires c = refused_place _ _ (sym c.judged.ensures ∙ c.in-Err.is)

pub header_for-requires : goal.header_for-requires
header_for-requires c =
    let pass = sym c.judged.ensures ∙ c.in-Ok.is in
    (row_known _ pass, count_known _ pass, free_kept _ pass)

pub put-requires : goal.put-requires
put-requires c = has_room _ (sym c.judged.ensures ∙ c.in-Ok.is)

pub returns-in-Ok : goal.returns-in-Ok
returns-in-Ok c = put_passed (sym c.judged.ensures ∙ c.in-Ok.is) c.header_for.ensures c.put.ensures c.acceptance.ensures
