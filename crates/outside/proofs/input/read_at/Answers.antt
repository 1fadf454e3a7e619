use Rattle.std.proofs.Common.{arith, length-take-le}
use Rattle.outside.proofs.Bytes.{read_in_place}
use Rattle.outside.proofs.input.read_at.Goals as goal

pub returns-clause-ok : goal.returns-clause-ok
returns-clause-ok g c =
    read_in_place _ _ c.read.result _ c.read.new.buf _ c.args.at (length-take-le _ c.args.bytes.now (omega (arith, c.requires))) c.read.ensures.bound c.read.ensures.bytes
