-- `plain_3d::type_3::pipe`: the header, and then one test after the other, with post-sync and without.
use Rattle.std.proofs.Common.{arith, refl, sym, ◌∙◌}
use borrow.Author.Tests.{eq-eqb, ne_eqb}
use Rattle.rules.specs.declared.Level.TheVariants.{First}
use Rattle.rules.specs.Refusals.{number_of}
use Rattle.plain_shared.proofs.Answering.{handed_on, is_refusal}
use Rattle.plain_shared.proofs.Fitting.{scratch_holds}
use Rattle.plain_shared.proofs.Whole.{whole_refuses, head_fits}
use Rattle.plain_3d.proofs.Rows.{pipe_row_lem, pipe_tested, pipe_unsynced_lem, pipe_synced}
use Rattle.plain_3d.proofs.type_3.pipe.Goals as goal

pub returns-in_err-whole_header : goal.returns-in_err-whole_header
returns-in_err-whole_header c =
    handed_on _ _ c.from_residual.ensures.1
    ∙ whole_refuses pipe_row_lem _ _ First c.in_err-whole_header.ensures c.requires.1 (is_refusal c.in_err-whole_header.field-0.0)

pub bounds-rest-1 : goal.bounds-rest-1
bounds-rest-1 c = omega (arith, head_fits _ _ c.in_ok-whole_header.ensures refl)

pub bounds-rest-2 : goal.bounds-rest-2
bounds-rest-2 c = omega (arith, head_fits _ _ c.in_ok-whole_header.ensures refl)

pub bounds-rest-1-2 : goal.bounds-rest-1-2
bounds-rest-1-2 c = omega (arith, head_fits _ _ c.in_ok-whole_header.ensures refl)

pub bounds-rest-3 : goal.bounds-rest-3
bounds-rest-3 c = omega (arith, head_fits _ _ c.in_ok-whole_header.ensures refl)

pub bounds-rest-2-2 : goal.bounds-rest-2-2
bounds-rest-2-2 c = omega (arith, head_fits _ _ c.in_ok-whole_header.ensures refl)

pub bounds-rest-3-2 : goal.bounds-rest-3-2
bounds-rest-3-2 c = omega (arith, head_fits _ _ c.in_ok-whole_header.ensures refl)

pub bounds-rest-2-3 : goal.bounds-rest-2-3
bounds-rest-2-3 c = omega (arith, head_fits _ _ c.in_ok-whole_header.ensures refl)

pub bounds-rest-3-3 : goal.bounds-rest-3-3
bounds-rest-3-3 c = omega (arith, head_fits _ _ c.in_ok-whole_header.ensures refl)

pub returns-then-not-allowed : goal.returns-then-not-allowed
unfolding number_of
returns-then-not-allowed c =
    let given = c.type_inv.rest in
    let all = pipe_tested c.args.w c.args.rest.now c.in_ok-whole_header.ensures refl (given 4).fits (given 5).fits in
    c.at.ensures ∙ (rw (← c.if-not-allowed.ensures) at all)

pub returns-then-not-allowed-2 : goal.returns-then-not-allowed-2
unfolding number_of
returns-then-not-allowed-2 c =
    let given = c.type_inv.rest in
    let all = pipe_tested c.args.w c.args.rest.now c.in_ok-whole_header.ensures refl (given 4).fits (given 5).fits in
    let second = rw (← c.if-not-allowed.ensures, ← c.if-not-allowed-2.ensures) at all in
    c.at-then-not-allowed-2.ensures ∙ second

pub returns-then-not-allowed-3 : goal.returns-then-not-allowed-3
unfolding number_of
returns-then-not-allowed-3 c =
    let given = c.type_inv.rest in
    let all = pipe_tested c.args.w c.args.rest.now c.in_ok-whole_header.ensures refl (given 4).fits (given 5).fits in
    let second = rw (← c.if-not-allowed.ensures, ← c.if-not-allowed-2.ensures) at all in
    let unsynced = pipe_unsynced_lem c.args.w c.args.rest.now c.if-rest-eq0.true in
    c.at-then-not-allowed-3.ensures ∙ (rw (← c.if-not-allowed-3.ensures) at unsynced) ∙ second

pub pipe_unsynced-requires : goal.pipe_unsynced-requires
pipe_unsynced-requires c = (head_fits _ _ c.in_ok-whole_header.ensures refl, c.if-rest-eq0.true)

pub returns-then-rest-eq0 : goal.returns-then-rest-eq0
returns-then-rest-eq0 c =
    let given = c.type_inv.rest in
    let all = pipe_tested c.args.w c.args.rest.now c.in_ok-whole_header.ensures refl (given 4).fits (given 5).fits in
    let second = rw (← c.if-not-allowed.ensures, ← c.if-not-allowed-2.ensures) at all in
    let unsynced = pipe_unsynced_lem c.args.w c.args.rest.now c.if-rest-eq0.true in
    c.pipe_unsynced.ensures ∙ (rw (← c.if-not-allowed-3.ensures) at unsynced) ∙ second

pub returns-then-rest-ne0 : goal.returns-then-rest-ne0
unfolding number_of
returns-then-rest-ne0 c =
    let given = c.type_inv.rest in
    let all = pipe_tested c.args.w c.args.rest.now c.in_ok-whole_header.ensures refl (given 4).fits (given 5).fits in
    let second = rw (← c.if-not-allowed.ensures, ← c.if-not-allowed-2.ensures) at all in
    let synced = pipe_synced c.args.w c.args.rest.now c.if-rest-eq0.false (given 3).fits in
    c.at-then-rest-ne0.ensures ∙ (rw (ne_eqb _ _ c.if-rest-ne0.true) at synced) ∙ second

pub returns-then-not-canonical : goal.returns-then-not-canonical
unfolding number_of
returns-then-not-canonical c =
    let given = c.type_inv.rest in
    let all = pipe_tested c.args.w c.args.rest.now c.in_ok-whole_header.ensures refl (given 4).fits (given 5).fits in
    let second = rw (← c.if-not-allowed.ensures, ← c.if-not-allowed-2.ensures) at all in
    let synced = pipe_synced c.args.w c.args.rest.now c.if-rest-eq0.false (given 3).fits in
    c.at-then-not-canonical.ensures ∙ (rw (eq-eqb _ _ c.if-rest-ne0.false, ← c.if-not-canonical.ensures) at synced) ∙ second

pub returns-then-not-holds : goal.returns-then-not-holds
unfolding number_of
returns-then-not-holds c =
    let given = c.type_inv.rest in
    let all = pipe_tested c.args.w c.args.rest.now c.in_ok-whole_header.ensures refl (given 4).fits (given 5).fits in
    let second = rw (← c.if-not-allowed.ensures, ← c.if-not-allowed-2.ensures) at all in
    let synced = pipe_synced c.args.w c.args.rest.now c.if-rest-eq0.false (given 3).fits in
    let fit = scratch_holds c.args.w 8 c.address_of.ensures c.holds.ensures in
    c.at-then-not-holds.ensures ∙ (rw (eq-eqb _ _ c.if-rest-ne0.false, ← c.if-not-canonical.ensures, sym fit ∙ c.if-not-holds.true) at synced) ∙ second

pub returns : goal.returns
returns c =
    let given = c.type_inv.rest in
    let all = pipe_tested c.args.w c.args.rest.now c.in_ok-whole_header.ensures refl (given 4).fits (given 5).fits in
    let second = rw (← c.if-not-allowed.ensures, ← c.if-not-allowed-2.ensures) at all in
    let synced = pipe_synced c.args.w c.args.rest.now c.if-rest-eq0.false (given 3).fits in
    let fit = scratch_holds c.args.w 8 c.address_of.ensures c.holds.ensures in
    (rw (eq-eqb _ _ c.if-rest-ne0.false, ← c.if-not-canonical.ensures, sym fit ∙ c.if-not-holds.false) at synced) ∙ second
