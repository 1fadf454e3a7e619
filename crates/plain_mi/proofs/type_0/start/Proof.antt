-- `plain_mi::type_0::start` meets its contract: its field, its end, and then one test after the other.
-- Assumes nothing.
use Prim.Native.Nat.{ℕ}
use mathlib.Core.Path.{◌≡◌, sym, ap, ◌∙◌}
use mathlib.Core.Bool.{not}
use lib.ListN.{drop}
use borrow.Author.Rules.{rules}
use borrow.Author.Tests.{eq-eqb, ne_eqb}
use Rattle.rules.specs.Commands.{start_row}
use Rattle.rules.specs.Refusals.{number_of}
use Rattle.plain_shared.specs.Plain.{wrong_of}
use Rattle.plain_shared.proofs.Tests.{asked, answered, refuses, passes}
use Rattle.plain_shared.proofs.Fitting.{batch_holds}
use Rattle.plain_mi.proofs.Starts.{start_field, start_past, start_tests, start_tested}
use Rattle.plain_mi.proofs.type_0.start.Statement.{statement}
use Rattle.plain_mi.proofs.type_0.start.Tie as tie

abbrev known : tie.Else-rest-lt3 → tie.After-shared_slice_known-1
known c = c.before.before.before

-- the tests behind the first k of them decide
abbrev Left : tie.Else-rest-lt3 → ℕ → Type 0
Left c k =
    let s = (known c).before in
    let d = s.args.rest.now in
    answered (drop k (start_tests s.args.w d s.args.level)) 0 ≡ wrong_of s.args.w start_row d s.args.level

all_left : (c : tie.Else-rest-lt3) → Left c 0
all_left c = start_tested _ _ _ c.if-header-ne1.false c.if-rest-lt3.false ((known c).shared_slice_known-1.given 2).fits

header_kept : (c : tie.Else-not-allowed) → Left c.before.before 1
header_kept c = passes 2560 _ (asked c.allowed.ensures c.if-not-allowed.false-raw) (all_left c.before.before)

-- the place behind the length, from each place behind it
abbrev from_low : tie.Else-not-allowed-2 → tie.Else-rest-lt3
from_low c = c.before.before.before.before.before

abbrev from_level : tie.Else-is_nested → tie.Else-rest-lt3
from_level c = from_low c.before.before

abbrev from_set : tie.Else-header-ne1-2 → tie.Else-rest-lt3
from_set c = from_level c.before

low_kept : (c : tie.Else-not-allowed-2) → Left (from_low c) 2
low_kept c = passes 2561 _ (asked c.allowed-2.ensures c.if-not-allowed-2.false-raw) (header_kept c.before.before.before)

outer : (c : tie.Else-is_nested) → Left (from_level c) 3
outer c = passes 2816 _ (sym c.is_nested.ensures ∙ c.if-is_nested.false) (low_kept c.before.before)

set : (c : tie.Else-header-ne1-2) → Left (from_set c) 4
set c = passes 3072 _ (ap not (eq-eqb _ _ c.if-header-ne1-2.false)) (outer c.before)

high_right_lem : (c : tie.Else-not-canonical) → Left (from_set c.before.before.before) 5
high_right_lem c = passes 3074 _ (asked c.canonical.ensures c.if-not-canonical.false-raw) (set c.before.before.before)

outside : tie.Need-returns-then-not-holds
unfolding number_of
outside c =
    let fit = c.before.before in
    let made = fit.before in
    let fitting = batch_holds _ 4 made.address_of.ensures fit.holds.ensures in
    c.at-then-not-holds.ensures ∙ refuses 3329 _ (asked fitting c.if-not-holds.true-raw) (high_right_lem made.before.before.before.before)

nothing : tie.Need-returns
nothing c =
    let fit = c.before in
    let made = fit.before in
    let fitting = batch_holds _ 4 made.address_of.ensures fit.holds.ensures in
    passes 3329 _ (asked fitting c.if-not-holds.false-raw) (high_right_lem made.before.before.before.before)

pub start_spec : {M : Type 1} → statement M
unfolding number_of
start_spec =
    tie.close
    (tie.spec (λ c. search rules) (λ c κs. search rules) (λ c. c.at.ensures ∙ start_field _ _ _ c.if-header-ne1.true)
    (λ c κs. search rules) (λ c. c.at-then-rest-lt3.ensures ∙ start_past _ _ _ c.if-header-ne1.false c.if-rest-lt3.true)
    (λ c κs. search rules) (λ c κs. search rules)
    (λ c. let test = c.before.before in c.at-then-not-allowed.ensures ∙ refuses 2560 _ (asked test.allowed.ensures c.if-not-allowed.true-raw) (all_left test.before))
    (λ c. search rules) (λ c κs. search rules) (λ c κs. search rules)
    (λ c. let test = c.before.before in c.at-then-not-allowed-2.ensures ∙ refuses 2561 _ (asked test.allowed-2.ensures c.if-not-allowed-2.true-raw) (header_kept test.before.before))
    (λ c κs. search rules) (λ c κs. search rules)
    (λ c. let test = c.before.before in c.at-then-is_nested.ensures ∙ refuses 2816 _ (sym test.is_nested.ensures ∙ c.if-is_nested.true) (low_kept test.before))
    (λ c κs. search rules) (λ c. c.at-then-header-ne1-2.ensures ∙ refuses 3072 _ (ap not (ne_eqb _ _ c.if-header-ne1-2.true)) (outer c.before.before))
    (λ c. search rules) (λ c κs. search rules) (λ c κs. search rules)
    (λ c. let test = c.before.before in c.at-then-not-canonical.ensures ∙ refuses 3074 _ (asked test.canonical.ensures c.if-not-canonical.true-raw) (set test.before.before))
    (λ c. search rules) (λ c. search rules) (λ c κs. search rules) (λ c κs. search rules) (λ c κs. search rules) outside nothing)
