-- The word has a bit for each named code, computed over all 64.
-- Assumes nothing.
use mathlib.Core.Path.{refl, ◌∙◌}
use Rattle.rules.specs.Words.{some}
use Rattle.rules.specs.Formats.{blend_factors, named_factor}
use Rattle.rules.proofs.Tables.{each, same, in_word, past_listed}
use Rattle.formats.proofs.named_factor.Goals as goal

pub returns : goal.returns
unfolding each same some blend_factors named_factor
returns c =
    c.bit_of.ensures
    ∙ in_word 0x07BE07FE named_factor refl (λ code past. past_listed 64 code blend_factors refl past) c.args.code
