-- The numbers of a file fit 32 bits each, as its bytes fit eight.
use Rattle.std.proofs.Common.{rules}
use Rattle.api.proofs.Smallness.{small}
use Rattle.api.proofs.lungevati_read.Goals as goal

pub flat-requires : goal.flat-requires
flat-requires c = rw c.read.ensures.answers (small c.args.file.now _ _ (λ i. (c.type_inv.file i).fits))
