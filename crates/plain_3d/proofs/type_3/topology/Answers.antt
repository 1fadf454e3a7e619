-- `plain_3d::type_3::topology`: the header, and then one test after the other.
use Rattle.std.proofs.Common.{arith, refl, ◌∙◌}
use Rattle.rules.specs.declared.Level.TheVariants.{First}
use Rattle.rules.specs.Refusals.{number_of}
use Rattle.plain_shared.specs.Plain.{no_windows}
use Rattle.plain_shared.proofs.Answering.{handed_on, is_refusal}
use Rattle.plain_shared.proofs.Whole.{whole_refuses, head_fits}
use Rattle.plain_3d.proofs.Rows.{topology_row_lem, topology_tested}
use Rattle.plain_3d.proofs.type_3.topology.Goals as goal

pub returns-in_err-whole_header : goal.returns-in_err-whole_header
returns-in_err-whole_header c =
    handed_on _ _ c.from_residual.ensures.1
    ∙ whole_refuses topology_row_lem no_windows _ First c.in_err-whole_header.ensures c.requires.1 (is_refusal c.in_err-whole_header.field-0.0)

pub bounds-rest-1 : goal.bounds-rest-1
bounds-rest-1 c = omega (arith, head_fits _ _ c.in_ok-whole_header.ensures refl)

pub returns-then-not-allowed : goal.returns-then-not-allowed
unfolding number_of
returns-then-not-allowed c =
    let all = topology_tested no_windows c.args.rest.now c.in_ok-whole_header.ensures refl in
    c.at.ensures ∙ (rw (← c.if-not-allowed.ensures) at all)

pub bounds-rest-1-2 : goal.bounds-rest-1-2
bounds-rest-1-2 c = omega (arith, head_fits _ _ c.in_ok-whole_header.ensures refl)

pub returns-then-not-known_topology : goal.returns-then-not-known_topology
unfolding number_of
returns-then-not-known_topology c =
    let all = topology_tested no_windows c.args.rest.now c.in_ok-whole_header.ensures refl in
    c.at-then-not-known_topology.ensures ∙ (rw (← c.if-not-allowed.ensures, ← c.if-not-known_topology.ensures) at all)

pub returns : goal.returns
returns c =
    let all = topology_tested no_windows c.args.rest.now c.in_ok-whole_header.ensures refl in
    rw (← c.if-not-allowed.ensures, ← c.if-not-known_topology.ensures) at all
