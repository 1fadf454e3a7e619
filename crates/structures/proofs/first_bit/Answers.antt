-- `structures::first_bit` meets its contract: each row of the table has its structure's masks.
use Rattle.std.proofs.Common.{rules, ◌≡◌}
use mathlib.Core.Path.{refl, ◌∙◌}
use Rattle.rules.specs.declared.Kind.TheVariants.{Viewport, ColourCalc, Blend}
use Rattle.rules.specs.Structures.{layout_of, structure_mask, structure_bit_wrong}
use Rattle.structures.specs.Table.{outside}
use Rattle.structures.proofs.BitRules.{one_each}
use Rattle.structures.proofs.first_bit.Goals as goal

pub returns-then-eq : goal.returns-then-eq
unfolding layout_of structure_mask structure_bit_wrong outside
returns-then-eq c = let kind : c.args.kind ≡ Blend = search rules in rw (kind, ← c.dwords_of.ensures) c.first_outside.ensures

pub returns-then-eq-2 : goal.returns-then-eq-2
unfolding layout_of
returns-then-eq-2 c =
    let kind : c.args.kind ≡ ColourCalc = search rules in
    rw (kind, ← c.dwords_of-then-eq-2.ensures) (c.first_outside-then-eq-2.ensures ∙ one_each ColourCalc 0xFFFF8001 0xFFFFFFFF refl refl _ _)

pub returns : goal.returns
unfolding layout_of
returns c =
    let kind : c.args.kind ≡ Viewport = search rules in
    rw (kind, ← c.dwords_of-2.ensures) (c.first_outside-2.ensures ∙ one_each Viewport 0xFFFFFFFF 0xFFFFFFFF refl refl _ _)
