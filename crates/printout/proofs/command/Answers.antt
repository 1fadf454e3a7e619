-- `command` meets its contract: the lowest field is not shifted, which the rules write as a division by 1.
use native.Mathlib.Nat.{div-one}
use Rattle.rules.specs.Records.{command_of}
use Rattle.printout.proofs.command.Goals as goal

pub returns : goal.returns
unfolding command_of
returns c = rw div-one
