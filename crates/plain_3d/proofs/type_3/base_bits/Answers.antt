-- `plain_3d::type_3::base_bits`: four dwords after the other.
use Rattle.std.proofs.Common.{refl, ◌≡◌, ◌∙◌}
use Rattle.plain_shared.proofs.Answering.{handed_on, is_refusal}
use Rattle.plain_shared.proofs.Grouping.{former_says, latter_says}
use Rattle.plain_3d.proofs.FourBits.{bits, bits_in_order, first_four, second_four, third_four, last_four}
use Rattle.plain_3d.proofs.type_3.base_bits.Goals as goal

pub returns-in_err-four_bits : goal.returns-in_err-four_bits
returns-in_err-four_bits c =
    handed_on _ _ c.from_residual.ensures.1
    ∙ former_says (bits_in_order _) 0 4 12 (first_four _ c.requires.1 c.high_mask.ensures c.in_err-four_bits.ensures)
    (is_refusal c.in_err-four_bits.field-0.0)

pub returns-in_err-four_bits-2 : goal.returns-in_err-four_bits-2
returns-in_err-four_bits-2 c =
    let d = c.args.rest.now in
    let behind_4 : bits d 4 12 ≡ bits d 0 16 = latter_says (bits_in_order d) 0 4 12 (first_four d c.requires.1 c.high_mask.ensures c.in_ok-four_bits.ensures) refl refl in
    handed_on _ _ c.from_residual-in_err-four_bits-2.ensures.1
    ∙ former_says (bits_in_order d) 4 4 8 (second_four d c.high_mask-2.ensures c.high_mask-3.ensures c.in_err-four_bits-2.ensures)
    (is_refusal c.in_err-four_bits-2.field-0.0)
    ∙ behind_4

pub returns-in_err-four_bits-3 : goal.returns-in_err-four_bits-3
returns-in_err-four_bits-3 c =
    let d = c.args.rest.now in
    let behind_4 : bits d 4 12 ≡ bits d 0 16 = latter_says (bits_in_order d) 0 4 12 (first_four d c.requires.1 c.high_mask.ensures c.in_ok-four_bits.ensures) refl refl in
    let behind_8 : bits d 8 8 ≡ bits d 4 12 = latter_says (bits_in_order d) 4 4 8 (second_four d c.high_mask-2.ensures c.high_mask-3.ensures c.in_ok-four_bits-2.ensures) refl refl in
    handed_on _ _ c.from_residual-in_err-four_bits-3.ensures.1
    ∙ former_says (bits_in_order d) 8 4 4 (third_four d c.high_mask-4.ensures c.high_mask-5.ensures c.in_err-four_bits-3.ensures)
    (is_refusal c.in_err-four_bits-3.field-0.0)
    ∙ behind_8
    ∙ behind_4

pub returns : goal.returns
returns c =
    let d = c.args.rest.now in
    let behind_4 : bits d 4 12 ≡ bits d 0 16 = latter_says (bits_in_order d) 0 4 12 (first_four d c.requires.1 c.high_mask.ensures c.in_ok-four_bits.ensures) refl refl in
    let behind_8 : bits d 8 8 ≡ bits d 4 12 = latter_says (bits_in_order d) 4 4 8 (second_four d c.high_mask-2.ensures c.high_mask-3.ensures c.in_ok-four_bits-2.ensures) refl refl in
    latter_says (bits_in_order d) 8 4 4 (third_four d c.high_mask-4.ensures c.high_mask-5.ensures c.in_ok-four_bits-3.ensures) refl
    (last_four d c.four_bits-4.ensures)
    ∙ behind_8
    ∙ behind_4
