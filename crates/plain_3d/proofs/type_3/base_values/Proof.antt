-- `plain_3d::type_3::base_values` meets its contract: one base after the other.
-- Assumes nothing.
use Prim.Native.Nat.{ℕ}
use mathlib.Core.Path.{◌≡◌, ◌∙◌}
use lib.ListN.{drop}
use borrow.Author.Rules.{rules}
use Rattle.rules.specs.declared.Reason.TheVariants.{ValueBroken}
use Rattle.rules.specs.Commands.{base_row}
use Rattle.rules.specs.Values.{value_wrong}
use Rattle.rules.specs.Refusals.{number_of}
use Rattle.plain_shared.specs.Plain.{first_coded}
use Rattle.plain_shared.proofs.Tests.{asked, answered, refuses, passes}
use Rattle.plain_3d.proofs.Bases.{value_tests, values_tested}
use Rattle.plain_3d.proofs.type_3.base_values.Statement.{statement}
use Rattle.plain_3d.proofs.type_3.base_values.Tie as tie

-- the tests behind the first n of them decide
abbrev Left : tie.Start → ℕ → Type 0
Left s n = let d = s.args.rest.now in answered (drop n (value_tests d)) 0 ≡ first_coded ValueBroken (value_wrong base_row d) 0 16

-- the place before all tests, from each place behind one
abbrev from_1 : tie.Else-not-base_right → tie.Start
from_1 c = c.before.before.before.before.before

abbrev from_2 : tie.Else-not-base_right-2 → tie.Start
from_2 c = from_1 c.before.before.before.before

abbrev from_3 : tie.Else-not-base_right-3 → tie.Start
from_3 c = from_2 c.before.before.before.before

abbrev from_4 : tie.Else-not-base_right-4 → tie.Start
from_4 c = from_3 c.before.before.before.before

general : (c : tie.Else-not-base_right) → Left (from_1 c) 1
general c = passes 3074 _ (asked c.base_right.ensures c.if-not-base_right.false-raw) (values_tested _)

surface : (c : tie.Else-not-base_right-2) → Left (from_2 c) 2
surface c = passes 3077 _ (asked c.base_right-2.ensures c.if-not-base_right-2.false-raw) (general c.before.before.before.before)

dynamic : (c : tie.Else-not-base_right-3) → Left (from_3 c) 3
dynamic c = passes 3079 _ (asked c.base_right-3.ensures c.if-not-base_right-3.false-raw) (surface c.before.before.before.before)

indirect : (c : tie.Else-not-base_right-4) → Left (from_4 c) 4
indirect c = passes 3081 _ (asked c.base_right-4.ensures c.if-not-base_right-4.false-raw) (dynamic c.before.before.before.before)

pub base_values_spec : {M : Type 1} → statement M
unfolding number_of
base_values_spec =
    tie.close
    (tie.spec (λ c. search rules) (λ c. search rules) (λ c κs. search rules) (λ c κs. search rules)
    (λ c. c.at.ensures ∙ refuses 3074 _ (asked c.base_right.ensures c.if-not-base_right.true-raw) (values_tested _))
    (λ c. search rules) (λ c. search rules) (λ c κs. search rules) (λ c κs. search rules)
    (λ c. let test = c.before.before in c.at-then-not-base_right-2.ensures ∙ refuses 3077 _ (asked test.base_right-2.ensures c.if-not-base_right-2.true-raw) (general test.before.before.before))
    (λ c. search rules) (λ c. search rules) (λ c κs. search rules) (λ c κs. search rules)
    (λ c. let test = c.before.before in c.at-then-not-base_right-3.ensures ∙ refuses 3079 _ (asked test.base_right-3.ensures c.if-not-base_right-3.true-raw) (surface test.before.before.before))
    (λ c. search rules) (λ c. search rules) (λ c κs. search rules) (λ c κs. search rules)
    (λ c. let test = c.before.before in c.at-then-not-base_right-4.ensures ∙ refuses 3081 _ (asked test.base_right-4.ensures c.if-not-base_right-4.true-raw) (dynamic test.before.before.before))
    (λ c. search rules) (λ c. search rules) (λ c κs. search rules) (λ c κs. search rules)
    (λ c. let test = c.before.before in c.at-then-not-base_right-5.ensures ∙ refuses 3083 _ (asked test.base_right-5.ensures c.if-not-base_right-5.true-raw) (indirect test.before.before.before))
    (λ c. let test = c.before in passes 3083 _ (asked test.base_right-5.ensures c.if-not-base_right-5.false-raw) (indirect test.before.before.before)))
