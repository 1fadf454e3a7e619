-- `plain_look::seen_by_header`: an arm for each key of type 0, and the other rows for any other header.
use Rattle.std.proofs.Common.{arith, refl, sym, ap, ℕ, List, get_or, ◌+◌, ◌∙◌}
use lib.Dec.{lit<}
use Rattle.rules.specs.Words.{field}
use Rattle.rules.specs.Commands.{rows, the_row, row_from, length_of}
use Rattle.rules.specs.Uses.{uses_by_row, access_of}
use Rattle.rules.specs.Values.{value_rules, rule_of}
use Rattle.rules.specs.Step.{header_at}
use Rattle.rules.proofs.Keys.{key_3}
use Rattle.plain_shared.proofs.Bare.{no_address}
use Rattle.plain_look.proofs.Deciding.{rest_is, header_first, never_nested, any_level, exactly_long, sees_within, sees_bare, sees_alone, sees_at_level}
use Rattle.plain_look.proofs.Arms.{row_0, lent_0}
use Rattle.plain_look.proofs.seen_by_header.Goals as goal

pub end-requires : goal.end-requires
unfolding rows row_from
end-requires c = row_0 c.args.batch.now c.args.at c.in-10.is (lit< tt) refl

pub set_registers-requires : goal.set_registers-requires
unfolding rows row_from
set_registers-requires c = lent_0 c.args.batch.now c.args.at c.in-34.is (lit< tt) refl c.requires

pub seen_store-requires : goal.seen_store-requires
unfolding rows row_from
seen_store-requires c = lent_0 c.args.batch.now c.args.at c.in-32.is (lit< tt) refl c.requires

pub store_register-requires : goal.store_register-requires
unfolding rows row_from
store_register-requires c = lent_0 c.args.batch.now c.args.at c.in-36.is (lit< tt) refl c.requires

pub load_register-requires : goal.load_register-requires
unfolding rows row_from
load_register-requires c = lent_0 c.args.batch.now c.args.at c.in-41.is (lit< tt) refl c.requires

pub start-requires : goal.start-requires
unfolding rows row_from
start-requires c = (lent_0 c.args.batch.now c.args.at c.in-49.is (lit< tt) refl c.requires).0

pub seen_of_type_3-requires : goal.seen_of_type_3-requires
unfolding rows
seen_of_type_3-requires c =
    (c.requires, sym (key_3 (header_at c.args.batch.now c.args.at) (c.type_inv.batch c.args.at).fits c.in_default.in_default-own.rest))

pub returns-in-0 : goal.returns-in-0
unfolding rows the_row row_from length_of uses_by_row access_of value_rules rule_of
returns-in-0 c =
    sees_alone _ c.args.batch.now c.args.at c.args.level 0 (lit< tt) (row_0 c.args.batch.now c.args.at c.in-0.is (lit< tt) refl) _ (refl, refl, refl) c.noop.ensures refl c.requires refl refl refl
    (never_nested 0 c.args.level (λ e. omega arith))

pub returns-in-10 : goal.returns-in-10
unfolding rows the_row row_from length_of uses_by_row access_of value_rules rule_of
returns-in-10 c =
    sees_alone _ c.args.batch.now c.args.at c.args.level 1 (lit< tt) (row_0 c.args.batch.now c.args.at c.in-10.is (lit< tt) refl) _ (refl, refl, refl) c.end.ensures refl c.requires refl refl refl
    (never_nested 1 c.args.level (λ e. omega arith))

pub returns-in-49 : goal.returns-in-49
unfolding rows the_row row_from length_of uses_by_row access_of value_rules rule_of
returns-in-49 c =
    sees_within _ c.args.batch.now c.args.at c.args.level 2 (lit< tt) (row_0 c.args.batch.now c.args.at c.in-49.is (lit< tt) refl) _ (refl, refl, refl) (exactly_long 2 _ 1 refl) c.start.ensures (rest_is c.args.batch.now c.args.at)

pub returns-in-34 : goal.returns-in-34
unfolding rows the_row row_from length_of uses_by_row access_of value_rules rule_of
returns-in-34 c =
    sees_bare _ c.args.batch.now c.args.at c.args.level 3 (lit< tt) (row_0 c.args.batch.now c.args.at c.in-34.is (lit< tt) refl) _ (refl, refl, refl) (λ q. c.length_by_field.ensures) c.set_registers.ensures
    (rest_is c.args.batch.now c.args.at) (no_address 3 refl) (never_nested 3 c.args.level (λ e. omega arith))

pub returns-in-32 : goal.returns-in-32
unfolding rows the_row row_from length_of uses_by_row access_of value_rules rule_of
returns-in-32 c =
    sees_within _ c.args.batch.now c.args.at c.args.level 4 (lit< tt) (row_0 c.args.batch.now c.args.at c.in-32.is (lit< tt) refl) _ c.seen_store.ensures
    (λ q. ap (λ (h : ℕ). field h 7 0 + 2) (ap (λ (l : List ℕ). get_or l 0 0) (rest_is c.args.batch.now c.args.at) ∙ header_first c.args.batch.now c.args.at))
    (sym (any_level _ 4 _ c.args.level (never_nested 4 c.args.level (λ e. omega arith)))) (rest_is c.args.batch.now c.args.at)

pub returns-in-36 : goal.returns-in-36
unfolding rows the_row row_from length_of uses_by_row access_of value_rules rule_of
returns-in-36 c =
    sees_within _ c.args.batch.now c.args.at c.args.level 5 (lit< tt) (row_0 c.args.batch.now c.args.at c.in-36.is (lit< tt) refl) _ (refl, refl, refl) (exactly_long 5 _ 2 refl)
    (c.store_register.ensures ∙ sym (any_level _ 5 _ c.args.level (never_nested 5 c.args.level (λ e. omega arith)))) (rest_is c.args.batch.now c.args.at)

pub returns-in-41 : goal.returns-in-41
unfolding rows the_row row_from length_of uses_by_row access_of value_rules rule_of
returns-in-41 c =
    sees_within _ c.args.batch.now c.args.at c.args.level 6 (lit< tt) (row_0 c.args.batch.now c.args.at c.in-41.is (lit< tt) refl) _ (refl, refl, refl) (exactly_long 6 _ 2 refl)
    (c.load_register.ensures ∙ sym (any_level _ 6 _ c.args.level (never_nested 6 c.args.level (λ e. omega arith)))) (rest_is c.args.batch.now c.args.at)

pub returns-in_default : goal.returns-in_default
unfolding rows
returns-in_default c =
    sees_at_level _ c.args.batch.now c.args.at c.args.level _ (sym (key_3 (header_at c.args.batch.now c.args.at) (c.type_inv.batch c.args.at).fits c.in_default.in_default-own.rest))
    c.seen_of_type_3.ensures
