-- Without the sign, a NaN's bits are above an infinity's.
-- Assumes nothing.
use Prim.Native.Nat.{ℕ}
use mathlib.Core.Path.{sym, ap, ◌∙◌}
use lib.Bits.{and_mask}
use lib.Dec.{ltb}
use lib.Ieee.{binary32}
use lib.Ieee.Bits.{nan_bits_above}
use Rattle.state_values.proofs.is_nan.Goals as goal

pub returns : goal.returns
returns c = ap (λ (k : ℕ). ltb 0x7F800000 k) (and_mask c.args.bits 31) ∙ sym (nan_bits_above binary32 c.args.bits)
