-- `plain_mi::type_0::register_and_address`: the header, and then one test after the other.
use Rattle.std.proofs.Common.{arith, refl, ◌≡◌, ℕ, List, length, ◌≤◌, ◌%◌, ◌∙◌}
use Rattle.rules.specs.Refusals.{number_of}
use Rattle.plain_shared.specs.Plain.{whole_header}
use Rattle.plain_shared.proofs.Answering.{handed_on, is_refusal}
use Rattle.plain_shared.proofs.Whole.{head_fits}
use Rattle.plain_mi.proofs.Registers.{header_says, register_tested}
use Rattle.plain_mi.proofs.type_0.register_and_address.Goals as goal

fits : (rest : List ℕ) (header : ℕ) → 0 ≡ whole_header rest header → header % 256 ≡ 2 → 4 ≤ length rest
fits rest header e h = omega (arith, head_fits rest header e refl, h)

pub returns-in_err-whole_header : goal.returns-in_err-whole_header
returns-in_err-whole_header c =
    handed_on _ _ c.from_residual.ensures.1 ∙ header_says _ _ c.in_err-whole_header.ensures (is_refusal c.in_err-whole_header.field-0.0)

pub bounds-rest-1 : goal.bounds-rest-1
bounds-rest-1 c = omega (arith, fits _ _ c.in_ok-whole_header.ensures c.requires.1)

pub bounds-rest-2 : goal.bounds-rest-2
bounds-rest-2 c = omega (arith, fits _ _ c.in_ok-whole_header.ensures c.requires.1)

pub bounds-rest-3 : goal.bounds-rest-3
bounds-rest-3 c = omega (arith, fits _ _ c.in_ok-whole_header.ensures c.requires.1)

pub bounds-rest-1-2 : goal.bounds-rest-1-2
bounds-rest-1-2 c = omega (arith, fits _ _ c.in_ok-whole_header.ensures c.requires.1)

pub returns-then-not-register_kept : goal.returns-then-not-register_kept
unfolding number_of
returns-then-not-register_kept c =
    let all = register_tested _ _ c.in_ok-whole_header.ensures refl (c.type_inv.rest 3).fits in
    c.at.ensures ∙ (rw (← c.if-not-register_kept.ensures) at all)

pub returns-then-not-allowed : goal.returns-then-not-allowed
unfolding number_of
returns-then-not-allowed c =
    let all = register_tested _ _ c.in_ok-whole_header.ensures refl (c.type_inv.rest 3).fits in
    c.at-then-not-allowed.ensures ∙ (rw (← c.if-not-register_kept.ensures, ← c.if-not-allowed.ensures) at all)

pub returns-then-not-known : goal.returns-then-not-known
unfolding number_of
returns-then-not-known c =
    let all = register_tested _ _ c.in_ok-whole_header.ensures refl (c.type_inv.rest 3).fits in
    c.at-then-not-known.ensures ∙ (rw (← c.if-not-register_kept.ensures, ← c.if-not-allowed.ensures, ← c.if-not-known.ensures) at all)

pub returns-then-not-canonical : goal.returns-then-not-canonical
unfolding number_of
returns-then-not-canonical c =
    let all = register_tested _ _ c.in_ok-whole_header.ensures refl (c.type_inv.rest 3).fits in
    c.at-then-not-canonical.ensures
    ∙ (rw (← c.if-not-register_kept.ensures, ← c.if-not-allowed.ensures, ← c.if-not-known.ensures, ← c.if-not-canonical.ensures) at all)

pub returns : goal.returns
returns c =
    let all = register_tested _ _ c.in_ok-whole_header.ensures refl (c.type_inv.rest 3).fits in
    rw (← c.if-not-register_kept.ensures, ← c.if-not-allowed.ensures, ← c.if-not-known.ensures, ← c.if-not-canonical.ensures) at all
