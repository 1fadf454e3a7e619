-- `plain_3d::type_3::pointer`: the header, and then the mask.
use Rattle.std.proofs.Common.{arith, refl, sym, ◌∙◌}
use Rattle.rules.specs.Refusals.{number_of}
use Rattle.plain_3d.specs.Pointer.{pointer_of}
use Rattle.plain_shared.proofs.Answering.{handed_on, is_refusal}
use Rattle.plain_shared.proofs.Whole.{head_fits, first_answers, then_answers}
use Rattle.plain_3d.proofs.type_3.pointer.Goals as goal

pub returns-in_err-whole_header : goal.returns-in_err-whole_header
unfolding pointer_of
returns-in_err-whole_header c =
    let e = c.in_err-whole_header.ensures in
    handed_on _ _ c.from_residual.ensures.1 ∙ e ∙ sym (first_answers _ _ (λ z. is_refusal c.in_err-whole_header.field-0.0 (e ∙ z)))

pub bounds-rest-1 : goal.bounds-rest-1
bounds-rest-1 c = omega (arith, head_fits _ _ c.in_ok-whole_header.ensures refl)

pub returns-then-not-allowed : goal.returns-then-not-allowed
unfolding number_of pointer_of
returns-then-not-allowed c = rw (then_answers _ _ (sym c.in_ok-whole_header.ensures), ← c.if-not-allowed.ensures) c.at.ensures

pub returns : goal.returns
unfolding pointer_of
returns c = rw (then_answers _ _ (sym c.in_ok-whole_header.ensures), ← c.if-not-allowed.ensures)
