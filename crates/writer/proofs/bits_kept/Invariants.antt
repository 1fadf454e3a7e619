-- The dwords that are left decide.
use Rattle.std.proofs.Common.{length}
use Rattle.rules.specs.Masks.{bit_wrong}
use Rattle.writer.proofs.WriterLaws.{Left}
use Rattle.writer.proofs.bits_kept.Given as goal

abbrev pub invariant-loop-k : goal.invariant-loop-k
invariant-loop-k l = Left (bit_wrong l.row l.command) (length l.command) l.k
