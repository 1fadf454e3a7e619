-- `plain_vertex::vertices::index_buffer`: the header, and then one test after the other.
use Rattle.std.proofs.Common.{arith, refl, ◌∙◌}
use borrow.Author.Tests.{eq-eqb, ne_eqb}
use Rattle.rules.specs.declared.Level.TheVariants.{First}
use Rattle.rules.specs.Refusals.{number_of}
use Rattle.plain_shared.proofs.Answering.{handed_on, is_refusal}
use Rattle.plain_shared.proofs.Whole.{whole_refuses, head_fits}
use Rattle.plain_vertex.proofs.IndexBuffers.{index_buffer_row_lem, index_buffer_tested}
use Rattle.plain_vertex.proofs.vertices.index_buffer.Goals as goal

pub returns-in_err-whole_header : goal.returns-in_err-whole_header
returns-in_err-whole_header c =
    handed_on _ _ c.from_residual.ensures.1
    ∙ whole_refuses index_buffer_row_lem _ _ First c.in_err-whole_header.ensures c.requires.1 (is_refusal c.in_err-whole_header.field-0.0)

pub bounds-rest-4 : goal.bounds-rest-4
bounds-rest-4 c = omega (arith, head_fits _ _ c.in_ok-whole_header.ensures refl)

pub bounds-rest-1 : goal.bounds-rest-1
bounds-rest-1 c = omega (arith, head_fits _ _ c.in_ok-whole_header.ensures refl)

pub bounds-rest-3 : goal.bounds-rest-3
bounds-rest-3 c = omega (arith, head_fits _ _ c.in_ok-whole_header.ensures refl)

pub bounds-rest-1-2 : goal.bounds-rest-1-2
bounds-rest-1-2 c = omega (arith, head_fits _ _ c.in_ok-whole_header.ensures refl)

pub bounds-rest-3-2 : goal.bounds-rest-3-2
bounds-rest-3-2 c = omega (arith, head_fits _ _ c.in_ok-whole_header.ensures refl)

pub bounds-rest-2 : goal.bounds-rest-2
bounds-rest-2 c = omega (arith, head_fits _ _ c.in_ok-whole_header.ensures refl)

pub bounds-rest-3-3 : goal.bounds-rest-3-3
bounds-rest-3-3 c = omega (arith, head_fits _ _ c.in_ok-whole_header.ensures refl)

pub bounds-rest-4-2 : goal.bounds-rest-4-2
bounds-rest-4-2 c = omega (arith, head_fits _ _ c.in_ok-whole_header.ensures refl)

pub returns-then-not-allowed : goal.returns-then-not-allowed
unfolding number_of
returns-then-not-allowed c =
    let given = c.type_inv.rest in
    let all = index_buffer_tested c.args.w c.args.rest.now c.in_ok-whole_header.ensures refl (given 2).fits (given 3).fits (given 4).fits in
    c.at.ensures
    ∙ (rw (← c.if-not-allowed.ensures) at all)

pub returns-then-not-low_or_kept : goal.returns-then-not-low_or_kept
unfolding number_of
returns-then-not-low_or_kept c =
    let given = c.type_inv.rest in
    let all = index_buffer_tested c.args.w c.args.rest.now c.in_ok-whole_header.ensures refl (given 2).fits (given 3).fits (given 4).fits in
    c.at-then-not-low_or_kept.ensures
    ∙ (rw (← c.if-not-allowed.ensures, ← c.if-not-low_or_kept.ensures) at all)

pub returns-then-rest-eq3 : goal.returns-then-rest-eq3
unfolding number_of
returns-then-rest-eq3 c =
    let given = c.type_inv.rest in
    let all = index_buffer_tested c.args.w c.args.rest.now c.in_ok-whole_header.ensures refl (given 2).fits (given 3).fits (given 4).fits in
    c.at-then-rest-eq3.ensures
    ∙ (rw (← c.if-not-allowed.ensures, ← c.if-not-low_or_kept.ensures, eq-eqb _ _ c.if-rest-eq3.true) at all)

pub returns-then-not-low_or_right : goal.returns-then-not-low_or_right
unfolding number_of
returns-then-not-low_or_right c =
    let given = c.type_inv.rest in
    let all = index_buffer_tested c.args.w c.args.rest.now c.in_ok-whole_header.ensures refl (given 2).fits (given 3).fits (given 4).fits in
    c.at-then-not-low_or_right.ensures
    ∙ (rw (← c.if-not-allowed.ensures, ← c.if-not-low_or_kept.ensures, ne_eqb _ _ c.if-rest-eq3.false, ← c.if-not-low_or_right.ensures) at all)

pub returns-then-not-sized_fits : goal.returns-then-not-sized_fits
unfolding number_of
returns-then-not-sized_fits c =
    let given = c.type_inv.rest in
    let all = index_buffer_tested c.args.w c.args.rest.now c.in_ok-whole_header.ensures refl (given 2).fits (given 3).fits (given 4).fits in
    c.at-then-not-sized_fits.ensures
    ∙ (rw (← c.if-not-allowed.ensures, ← c.if-not-low_or_kept.ensures, ne_eqb _ _ c.if-rest-eq3.false, ← c.if-not-low_or_right.ensures, ← c.if-not-sized_fits.ensures) at all)

pub returns : goal.returns
returns c =
    let given = c.type_inv.rest in
    let all = index_buffer_tested c.args.w c.args.rest.now c.in_ok-whole_header.ensures refl (given 2).fits (given 3).fits (given 4).fits in
    (rw (← c.if-not-allowed.ensures, ← c.if-not-low_or_kept.ensures, ne_eqb _ _ c.if-rest-eq3.false, ← c.if-not-low_or_right.ensures, ← c.if-not-sized_fits.ensures) at all)
