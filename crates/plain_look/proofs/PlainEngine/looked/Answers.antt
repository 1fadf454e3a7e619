-- `looked` of the plain engine: what is seen of a command is the look at it.
use Rattle.std.proofs.Common.{rules, ap, sym, ◌∙◌}
use Rattle.plain_shared.specs.Plain.{as_number}
use Rattle.plain_shared.proofs.Answering.{is_refusal}
use Rattle.plain_look.proofs.Deciding.{look_whole, answer_bounded, look_wrong}
use Rattle.plain_look.proofs.PlainEngine.looked.Goals as goal

pub returns-in-Ok : goal.returns-in-Ok
returns-in-Ok c = look_whole _ c.args.batch.now c.args.at _ c.requires _ c.seen_by_header-row.ensures (ap as_number c.in-Ok.is)

pub fault-requires : goal.fault-requires
fault-requires c =
    let number = ap as_number c.in-Err.is in
    let bounds = rw number at (answer_bounded _ c.args.batch.now c.args.at _ c.requires _ c.seen_by_header-row.ensures
    (λ z. is_refusal c.in-Err.wrong (sym number ∙ z))) in
    (bounds.0, bounds.1, search rules)

pub returns-in-Err : goal.returns-in-Err
returns-in-Err c =
    let number = ap as_number c.in-Err.is in
    look_wrong _ c.args.batch.now c.args.at _ c.requires _ c.seen_by_header-row.ensures (λ z. is_refusal c.in-Err.wrong (sym number ∙ z)) _
    (rw number c.fault.ensures)
