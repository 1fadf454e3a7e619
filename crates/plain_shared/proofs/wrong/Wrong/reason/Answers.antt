-- `plain_shared::wrong::Wrong::reason`: an arm for each number, and the last for what is left of them.
use Rattle.std.proofs.Common.{sym, arith}
use Rattle.rules.specs.Refusals.{number_of}
use Rattle.plain_shared.proofs.wrong.Wrong.reason.Goals as goal

pub returns-in-7 : goal.returns-in-7
unfolding number_of
returns-in-7 c = sym c.in-7.is

pub returns-in-8 : goal.returns-in-8
unfolding number_of
returns-in-8 c = sym c.in-8.is

pub returns-in-9 : goal.returns-in-9
unfolding number_of
returns-in-9 c = sym c.in-9.is

pub returns-in-10 : goal.returns-in-10
unfolding number_of
returns-in-10 c = sym c.in-10.is

pub returns-in-11 : goal.returns-in-11
unfolding number_of
returns-in-11 c = sym c.in-11.is

pub returns-in-12 : goal.returns-in-12
unfolding number_of
returns-in-12 c = sym c.in-12.is

pub returns-in_default : goal.returns-in_default
unfolding number_of
returns-in_default c = omega arith
