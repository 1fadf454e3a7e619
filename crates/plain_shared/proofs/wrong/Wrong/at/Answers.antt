-- `plain_shared::wrong::Wrong::at`: a refusal's number is above 0.
use Rattle.std.proofs.Common.{arith}
use Rattle.rules.proofs.Unique.{above_zero}
use Rattle.plain_shared.proofs.wrong.Wrong.at.Goals as goal

pub invariant_of-result : goal.invariant_of-result
invariant_of-result c = record { some = omega (arith, above_zero c.args.reason) }
