-- `plain_mi::type_0::store_register`, by the laws of rows 5 and 6.
use Rattle.std.proofs.Common.{arith, refl, ap, true, false, not, ◌∙◌}
use Rattle.rules.specs.Refusals.{number_of}
use Rattle.plain_shared.proofs.Answering.{handed_on, is_refusal}
use Rattle.plain_shared.proofs.Fitting.{scratch_holds}
use Rattle.plain_mi.proofs.Registers.{stores, register_refused, register_fits, addressed}
use Rattle.plain_mi.proofs.type_0.store_register.Goals as goal

pub returns-in_err-register_and_address : goal.returns-in_err-register_and_address
returns-in_err-register_and_address c =
    handed_on _ _ c.from_residual.ensures.1
    ∙ register_refused (stores _) _ c.in_err-register_and_address.ensures c.requires.1 (is_refusal c.in_err-register_and_address.field-0.0)

pub bounds-rest-2 : goal.bounds-rest-2
bounds-rest-2 c = omega (arith, register_fits (stores c.args.w) _ c.in_ok-register_and_address.ensures refl)

pub bounds-rest-3 : goal.bounds-rest-3
bounds-rest-3 c = omega (arith, register_fits (stores c.args.w) _ c.in_ok-register_and_address.ensures refl)

pub returns-then-not-holds : goal.returns-then-not-holds
unfolding number_of
returns-then-not-holds c =
    c.at.ensures
    ∙ addressed (stores _) _ c.in_ok-register_and_address.ensures refl true (scratch_holds _ 4 c.address_of.ensures c.holds.ensures) (ap not c.if-not-holds.true)

pub returns : goal.returns
returns c =
    addressed (stores _) _ c.in_ok-register_and_address.ensures refl false (scratch_holds _ 4 c.address_of.ensures c.holds.ensures) (ap not c.if-not-holds.false)
