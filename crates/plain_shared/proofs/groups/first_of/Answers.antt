-- `plain_shared::groups::first_of`: the first that the check finds in the groups that are left.
use Rattle.std.proofs.Common.{arith, refl, ◌∙◌}
use Rattle.rules.specs.declared.Reason.TheVariants.{BitNotAllowed}
use Rattle.plain_shared.proofs.Answering.{handed_on, is_refusal}
use Rattle.plain_shared.proofs.Coding.{part_passes}
use Rattle.plain_shared.proofs.Grouping.{by_reason, turn_at, goes_on, stops, all_passed}
use Rattle.plain_shared.proofs.groups.first_of.Goals as goal

pub wrong-requires-clause-bits_pass : goal.wrong-requires-clause-bits_pass
wrong-requires-clause-bits_pass g c v =
    let there = (turn_at c.loop-k.invariant c.requires.whole.1 c.loop-k-test.true).there in
    part_passes BitNotAllowed _ 1 _ _ _ there.0 (omega (arith, there.1)) (c.requires.bits_pass v)

pub returns-in_err-wrong : goal.returns-in_err-wrong
returns-in_err-wrong g c =
    handed_on _ _ c.from_residual.ensures.1
    ∙ stops (by_reason _ _ _ _) (turn_at c.loop-k.invariant c.requires.whole.1 c.loop-k-test.true) c.in_err-wrong.ensures
    (is_refusal c.in_err-wrong.field-0.0)

pub loop-k-preserved : goal.loop-k-preserved
loop-k-preserved g c =
    rw c.SIZE-k-step.ensures
    (goes_on (by_reason _ _ _ _) (turn_at c.loop-k.invariant c.requires.whole.1 c.loop-k-test.true) c.in_ok-wrong.ensures refl)

pub returns : goal.returns
returns g c = all_passed (by_reason _ _ _ _) c.loop-k.invariant c.loop-k-test.false
