-- The first i dwords are copied behind the header.
use Rattle.std.proofs.Common.{◌≡◌, ◌+◌, ◌≤◌, length}
use lib.Seq.{paste}
use Rattle.writer.proofs.put.Given as goal

abbrev pub invariant-loop-i : goal.invariant-loop-i
invariant-loop-i l = (l.into ≡ paste l.initial.into (l.first + 1) l.dwords l.i) × (l.i ≤ length l.dwords)
