-- `plain_3d::type_3::base`: the header, what most commands are like, then 10, then 12.
use Rattle.std.proofs.Common.{refl, sym, ◌∙◌}
use Rattle.rules.specs.declared.Level.TheVariants.{First}
use Rattle.plain_shared.specs.Plain.{no_windows}
use Rattle.plain_shared.proofs.Answering.{handed_on, is_refusal}
use Rattle.plain_shared.proofs.Whole.{whole_refuses, head_is, head_fits}
use Rattle.plain_3d.proofs.Rows.{base_row_lem}
use Rattle.plain_3d.proofs.Bases.{bit_says, value_says, usual_says}
use Rattle.plain_3d.proofs.type_3.base.Goals as goal

pub returns-in_err-whole_header : goal.returns-in_err-whole_header
returns-in_err-whole_header c =
    handed_on _ _ c.from_residual.ensures.1
    ∙ whole_refuses base_row_lem no_windows _ First c.in_err-whole_header.ensures c.requires.1 (is_refusal c.in_err-whole_header.field-0.0)

pub base_usual-requires : goal.base_usual-requires
base_usual-requires c = head_fits _ _ c.in_ok-whole_header.ensures refl

pub returns-then-base_usual : goal.returns-then-base_usual
returns-then-base_usual c = usual_says _ (sym c.if-base_usual.ensures) c.in_ok-whole_header.ensures refl

pub base_bits-requires : goal.base_bits-requires
base_bits-requires c = (head_fits _ _ c.in_ok-whole_header.ensures refl, head_is _ _ c.in_ok-whole_header.ensures refl)

pub returns-in_err-base_bits : goal.returns-in_err-base_bits
returns-in_err-base_bits c =
    handed_on _ _ c.from_residual-in_err-base_bits.ensures.1
    ∙ bit_says _ c.in_ok-whole_header.ensures refl c.in_err-base_bits.ensures (is_refusal c.in_err-base_bits.field-0.0)

pub base_values-requires : goal.base_values-requires
base_values-requires c = head_fits _ _ c.in_ok-whole_header.ensures refl

pub returns : goal.returns
returns c = value_says _ c.in_ok-whole_header.ensures refl c.in_ok-base_bits.ensures refl c.base_values.ensures
