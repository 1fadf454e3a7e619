-- `plain_mi::type_0::store_four` meets its contract: one test after the other.
-- Assumes nothing.
use Prim.Native.Nat.{ℕ}
use mathlib.Core.Path.{◌≡◌, ◌∙◌}
use lib.ListN.{drop}
use borrow.Author.Rules.{rules}
use Rattle.rules.specs.declared.Level.TheVariants.{First}
use Rattle.rules.specs.Commands.{store_row}
use Rattle.rules.specs.Refusals.{number_of}
use Rattle.plain_shared.specs.Plain.{wrong_of}
use Rattle.plain_shared.proofs.Tests.{asked, answered, refuses, passes, own_past, own_answer}
use Rattle.plain_shared.proofs.Fitting.{scratch_holds}
use Rattle.plain_mi.proofs.Stores.{Store, four_tests, four_bytes}
use Rattle.plain_mi.proofs.type_0.store_four.Statement.{statement}
use Rattle.plain_mi.proofs.type_0.store_four.Tie as tie

own : (c : tie.After-shared_slice_known-1) → let s = c.before in let d = s.args.rest.now in
    Store s.args.w d 4 (answered (four_tests s.args.w d) 0)
own c = let given = c.shared_slice_known-1.given in four_bytes _ _ (given 2).fits (given 3).fits c.requires.1

-- the tests behind the first k of them decide
abbrev Left : tie.Else-rest-lt4 → ℕ → Type 0
Left c k =
    let s = c.before.before in
    let d = s.args.rest.now in
    answered (drop k (four_tests s.args.w d)) 0 ≡ wrong_of s.args.w store_row d First

all_left : (c : tie.Else-rest-lt4) → Left c 0
all_left c = own_answer (own c.before) c.if-rest-lt4.false

low_kept : (c : tie.Else-not-allowed) → Left c.before.before.before 1
low_kept c = passes 2561 _ (asked c.allowed.ensures c.if-not-allowed.false-raw) (all_left c.before.before.before)

abbrev low : tie.Else-not-canonical → tie.Else-not-allowed
low c = c.before.before.before

high_right_lem : (c : tie.Else-not-canonical) → Left (low c).before.before.before 2
high_right_lem c = passes 3074 _ (asked c.canonical.ensures c.if-not-canonical.false-raw) (low_kept (low c))

pub store_four_spec : {M : Type 1} → statement M
unfolding number_of
store_four_spec =
    tie.close
    (tie.spec (λ c κs. search rules) (λ c. c.at.ensures ∙ own_past (own c.before.before) c.if-rest-lt4.true)
    (λ c. search rules) (λ c κs. search rules) (λ c κs. search rules)
    (λ c. let test = c.before.before in c.at-then-not-allowed.ensures ∙ refuses 2561 _ (asked test.allowed.ensures c.if-not-allowed.true-raw) (all_left test.before.before))
    (λ c. search rules) (λ c κs. search rules) (λ c κs. search rules)
    (λ c. let test = c.before.before in c.at-then-not-canonical.ensures ∙ refuses 3074 _ (asked test.canonical.ensures c.if-not-canonical.true-raw) (low_kept test.before.before))
    (λ c. search rules) (λ c. search rules) (λ c κs. search rules) (λ c κs. search rules) (λ c κs. search rules)
    (λ c.
    let fit = c.before.before in
    let made = fit.before in
    c.at-then-not-holds.ensures
    ∙ refuses 3329 0 (asked (scratch_holds _ 4 made.address_of.ensures fit.holds.ensures) c.if-not-holds.true-raw)
    (high_right_lem made.before.before.before.before))
    (λ c.
    let fit = c.before in
    let made = fit.before in
    passes 3329 0 (asked (scratch_holds _ 4 made.address_of.ensures fit.holds.ensures) c.if-not-holds.false-raw)
    (high_right_lem made.before.before.before.before)))
