-- `plain_look::seen_of_type_3`: an arm or a test for each key, and no row has any other.
use Rattle.std.proofs.Common.{refl, sym, ◌/◌, ◌^◌, ◌∙◌}
use lib.Dec.{lit<}
use Rattle.rules.specs.declared.Level.TheVariants.{First}
use Rattle.rules.specs.Commands.{rows, the_row, row_from, length_of}
use Rattle.rules.specs.Uses.{uses_by_row, access_of}
use Rattle.rules.specs.Values.{value_rules, rule_of}
use Rattle.rules.specs.Refusals.{number_of}
use Rattle.rules.specs.Step.{header_at}
use Rattle.rules.proofs.Keys.{unknown_3}
use Rattle.plain_shared.proofs.Bare.{no_address}
use Rattle.plain_3d.proofs.Bases.{bases_unasked}
use Rattle.plain_look.proofs.Deciding.{exactly_long, sees_alone, sees_nothing}
use Rattle.plain_look.proofs.Arms.{row_3, lent_3, seen_within, seen_bare}
use Rattle.plain_look.proofs.seen_of_type_3.Goals as goal

pub select-requires : goal.select-requires
unfolding rows row_from
select-requires c = row_3 c.args.batch.now c.args.at c.requires.1 c.in-26884.is refl

pub returns-in-26884 : goal.returns-in-26884
unfolding rows the_row row_from length_of uses_by_row access_of value_rules rule_of
returns-in-26884 c =
    sees_alone _ c.args.batch.now c.args.at First 8 (lit< tt) (row_3 c.args.batch.now c.args.at c.requires.1 c.in-26884.is refl) _ (refl, refl, refl)
    c.select.ensures refl c.requires.0 refl refl refl refl

pub pipe-requires : goal.pipe-requires
unfolding rows row_from
pipe-requires c = lent_3 c.args.batch.now c.args.at c.requires.1 c.in-31232.is refl c.requires.0

pub returns-in-31232 : goal.returns-in-31232
unfolding rows the_row row_from length_of uses_by_row access_of value_rules rule_of
returns-in-31232 c =
    seen_within _ c.args.batch.now c.args.at 7 (lit< tt) (row_3 c.args.batch.now c.args.at c.requires.1 c.in-31232.is refl) _ _ (exactly_long 7 _ 4 refl) c.pipe.ensures

pub base-requires : goal.base-requires
unfolding rows row_from
base-requires c = lent_3 c.args.batch.now c.args.at c.requires.1 c.in-24833.is refl c.requires.0

pub returns-in-24833 : goal.returns-in-24833
unfolding rows the_row row_from length_of uses_by_row access_of value_rules rule_of
returns-in-24833 c =
    seen_bare _ c.args.batch.now c.args.at 9 (lit< tt) (row_3 c.args.batch.now c.args.at c.requires.1 c.in-24833.is refl) _ _ (exactly_long 9 _ 14 refl) c.base.ensures bases_unasked

pub vertex_buffers-requires : goal.vertex_buffers-requires
unfolding rows row_from
vertex_buffers-requires c = lent_3 c.args.batch.now c.args.at c.requires.1 c.in-30728.is refl c.requires.0

pub returns-in-30728 : goal.returns-in-30728
unfolding rows the_row row_from length_of uses_by_row access_of value_rules rule_of
returns-in-30728 c =
    seen_within _ c.args.batch.now c.args.at 10 (lit< tt) (row_3 c.args.batch.now c.args.at c.requires.1 c.in-30728.is refl) _ _ (λ q. c.length_by_field.ensures) c.vertex_buffers.ensures

pub vertex_elements-requires : goal.vertex_elements-requires
unfolding rows row_from
vertex_elements-requires c = lent_3 c.args.batch.now c.args.at c.requires.1 c.in-30729.is refl c.requires.0

pub returns-in-30729 : goal.returns-in-30729
unfolding rows the_row row_from length_of uses_by_row access_of value_rules rule_of
returns-in-30729 c =
    seen_bare _ c.args.batch.now c.args.at 11 (lit< tt) (row_3 c.args.batch.now c.args.at c.requires.1 c.in-30729.is refl) _ _ (λ q. c.length_by_field-in-30729.ensures) c.vertex_elements.ensures (no_address 11 refl)

pub returns-in-30730 : goal.returns-in-30730
unfolding rows the_row row_from length_of uses_by_row access_of value_rules rule_of
returns-in-30730 c =
    seen_within _ c.args.batch.now c.args.at 12 (lit< tt) (row_3 c.args.batch.now c.args.at c.requires.1 c.in-30730.is refl) _ _ (exactly_long 12 _ 3 refl) c.index_buffer.ensures

pub topology-requires : goal.topology-requires
unfolding rows row_from
topology-requires c = lent_3 c.args.batch.now c.args.at c.requires.1 c.in-30795.is refl c.requires.0

pub returns-in-30795 : goal.returns-in-30795
unfolding rows the_row row_from length_of uses_by_row access_of value_rules rule_of
returns-in-30795 c =
    seen_bare _ c.args.batch.now c.args.at 13 (lit< tt) (row_3 c.args.batch.now c.args.at c.requires.1 c.in-30795.is refl) _ _ (exactly_long 13 _ 0 refl) c.topology.ensures (no_address 13 refl)

pub viewport-requires : goal.viewport-requires
unfolding rows row_from
viewport-requires c = lent_3 c.args.batch.now c.args.at c.requires.1 c.in-30755.is refl c.requires.0

pub returns-in-30755 : goal.returns-in-30755
unfolding rows the_row row_from length_of uses_by_row access_of value_rules rule_of
returns-in-30755 c =
    seen_bare _ c.args.batch.now c.args.at 14 (lit< tt) (row_3 c.args.batch.now c.args.at c.requires.1 c.in-30755.is refl) _ _ (exactly_long 14 _ 0 refl) c.viewport.ensures (no_address 14 refl)

pub colour-requires : goal.colour-requires
unfolding rows row_from
colour-requires c = lent_3 c.args.batch.now c.args.at c.requires.1 c.in-30734.is refl c.requires.0

pub returns-in-30734 : goal.returns-in-30734
unfolding rows the_row row_from length_of uses_by_row access_of value_rules rule_of
returns-in-30734 c =
    seen_bare _ c.args.batch.now c.args.at 15 (lit< tt) (row_3 c.args.batch.now c.args.at c.requires.1 c.in-30734.is refl) _ _ (exactly_long 15 _ 0 refl) c.colour.ensures (no_address 15 refl)

pub primitive-requires : goal.primitive-requires
unfolding rows row_from
primitive-requires c = lent_3 c.args.batch.now c.args.at c.requires.1 c.in-31488.is refl c.requires.0

pub returns-in-31488 : goal.returns-in-31488
unfolding rows the_row row_from length_of uses_by_row access_of value_rules rule_of
returns-in-31488 c =
    seen_bare _ c.args.batch.now c.args.at 16 (lit< tt) (row_3 c.args.batch.now c.args.at c.requires.1 c.in-31488.is refl) _ _ (exactly_long 16 _ 5 refl) c.primitive.ensures (no_address 16 refl)

pub blend-requires : goal.blend-requires
unfolding rows row_from
blend-requires c = lent_3 c.args.batch.now c.args.at c.requires.1 c.if-key-eq30756.true refl c.requires.0

pub returns-then-key-eq30756 : goal.returns-then-key-eq30756
unfolding rows the_row row_from length_of uses_by_row access_of value_rules rule_of
returns-then-key-eq30756 c =
    seen_bare _ c.args.batch.now c.args.at 17 (lit< tt) (row_3 c.args.batch.now c.args.at c.requires.1 c.if-key-eq30756.true refl) _ _ (exactly_long 17 _ 0 refl) c.blend.ensures (no_address 17 refl)

pub returns-else-key-eq30756 : goal.returns-else-key-eq30756
unfolding number_of rows the_row
returns-else-key-eq30756 c =
    let keys = c.in_default.in_default-own.rest in
    sees_nothing _ c.args.batch.now c.args.at First _
    (unknown_3 (header_at c.args.batch.now c.args.at / 2 ^ 16) keys.0.0.0.1 ((((keys.0.0.0.0, keys.0.0.1), keys.0.1), keys.1), c.if-key-eq30756.false)
    ∙ sym c.requires.1)
    c.at.ensures
