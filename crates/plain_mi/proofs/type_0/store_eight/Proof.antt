-- `plain_mi::type_0::store_eight` meets its contract: one test after the other.
-- Assumes nothing.
use Prim.Native.Nat.{ℕ}
use native.Mathlib.Omega.{arith}
use mathlib.Core.Path.{◌≡◌, ap, ◌∙◌}
use mathlib.Core.Bool.{not}
use lib.ListN.{drop}
use borrow.Author.Rules.{rules}
use borrow.Author.Tests.{eq-eqb, ne_eqb}
use Rattle.rules.specs.declared.Level.TheVariants.{First}
use Rattle.rules.specs.Commands.{store_row}
use Rattle.rules.specs.Refusals.{number_of}
use Rattle.plain_shared.specs.Plain.{wrong_of}
use Rattle.plain_shared.proofs.Tests.{asked, answered, refuses, passes, own_past, own_answer}
use Rattle.plain_shared.proofs.Fitting.{scratch_holds}
use Rattle.plain_mi.proofs.Kept.{low_kept}
use Rattle.plain_mi.proofs.Stores.{Store, eight_tests, eight_bytes_lem}
use Rattle.plain_mi.proofs.type_0.store_eight.Statement.{statement}
use Rattle.plain_mi.proofs.type_0.store_eight.Tie as tie

own : (c : tie.After-shared_slice_known-1) → let s = c.before in let d = s.args.rest.now in
    Store s.args.w d 5 (answered (eight_tests s.args.w d) 0)
own c = let given = c.shared_slice_known-1.given in eight_bytes_lem _ _ (given 2).fits (given 3).fits c.requires.1 (given 4).fits

-- the tests behind the first k of them decide
abbrev Left : tie.Else-rest-lt5 → ℕ → Type 0
Left c k =
    let s = c.before.before in
    let d = s.args.rest.now in
    answered (drop k (eight_tests s.args.w d)) 0 ≡ wrong_of s.args.w store_row d First

all_left : (c : tie.Else-rest-lt5) → Left c 0
all_left c = own_answer (own c.before) c.if-rest-lt5.false

-- where the address is not a multiple of eight
abbrev unaligned : tie.After-allowed → tie.Then-rest-ne0
unaligned c = c.before.before

abbrev behind_length : tie.After-allowed → tie.Else-rest-lt5
behind_length c = (unaligned c).before.before

mask_kept : (c : tie.Else-not-allowed) → Left (behind_length c.before) 1
mask_kept c = passes 2561 _ (asked c.allowed.ensures c.if-not-allowed.false-raw) (all_left (behind_length c.before))

-- and where it is one, which keeps the mask
abbrev low : tie.Else-rest-ne0 → tie.Else-rest-lt5
low c = c.before.before

aligned : (c : tie.Else-rest-ne0) → Left (low c) 2
aligned c =
    let fits = ((low c).shared_slice_known-1.given 1).fits in
    passes 3073 _ (ap not (eq-eqb _ _ c.if-rest-ne0.false))
    (passes 2561 _ (ap not (low_kept _ (omega (arith, c.if-rest-ne0.false)) fits)) (all_left (low c)))

abbrev eights : tie.Else-not-canonical → tie.Else-rest-ne0
eights c = c.before.before.before

high_right_lem : (c : tie.Else-not-canonical) → Left (low (eights c)) 3
high_right_lem c = passes 3074 _ (asked c.canonical.ensures c.if-not-canonical.false-raw) (aligned (eights c))

pub store_eight_spec : {M : Type 1} → statement M
unfolding number_of
store_eight_spec =
    tie.close
    (tie.spec (λ c κs. search rules) (λ c. c.at.ensures ∙ own_past (own c.before.before) c.if-rest-lt5.true)
    (λ c. search rules) (λ c. search rules) (λ c κs. search rules) (λ c κs. search rules)
    (λ c.
    let test = c.before.before in
    c.at-then-not-allowed.ensures ∙ refuses 2561 _ (asked test.allowed.ensures c.if-not-allowed.true-raw) (all_left (behind_length test)))
    (λ c κs. search rules)
    (λ c. c.at-then-rest-ne0.ensures ∙ refuses 3073 _ (ap not (ne_eqb _ _ (unaligned c.before.before).if-rest-ne0.true)) (mask_kept c.before))
    (λ c. search rules) (λ c κs. search rules) (λ c κs. search rules)
    (λ c. let test = c.before.before in c.at-then-not-canonical.ensures ∙ refuses 3074 _ (asked test.canonical.ensures c.if-not-canonical.true-raw) (aligned test.before.before))
    (λ c. search rules) (λ c. search rules) (λ c κs. search rules) (λ c κs. search rules) (λ c κs. search rules)
    (λ c.
    let fit = c.before.before in
    let made = fit.before in
    c.at-then-not-holds.ensures
    ∙ refuses 3329 0 (asked (scratch_holds _ 8 made.address_of.ensures fit.holds.ensures) c.if-not-holds.true-raw)
    (high_right_lem made.before.before.before.before))
    (λ c.
    let fit = c.before in
    let made = fit.before in
    passes 3329 0 (asked (scratch_holds _ 8 made.address_of.ensures fit.holds.ensures) c.if-not-holds.false-raw)
    (high_right_lem made.before.before.before.before)))
