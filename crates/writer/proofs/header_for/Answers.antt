-- The row's key, the free bits, and a field that is one less than the count: a sum that fits a dword.
use native.Mathlib.Omega.{arith}
use Rattle.rules.specs.Commands.{the_row, group_size}
use Rattle.rules.specs.Writer.{header_for}
use Rattle.rules.proofs.Writing.{field_of_count, counts_small}
use Rattle.writer.proofs.WriterLaws.{header_small}
use Rattle.writer.proofs.header_for.Goals as goal

pub overflow_cast-result : goal.overflow_cast-result
overflow_cast-result c = let a = c.args in omega (arith, c.saturating_sub.ensures, counts_small a.row a.free a.n c.requires.0 c.requires.1)

pub overflow_add-result : goal.overflow_add-result
overflow_add-result c =
    let a = c.args in
    omega (arith, c.saturating_sub.ensures, header_small a.row a.free a.n c.requires.0 c.requires.1 c.requires.2)

pub overflow_add-result-2 : goal.overflow_add-result-2
overflow_add-result-2 c =
    let a = c.args in
    omega (arith, c.key.ensures, c.saturating_sub.ensures, header_small a.row a.free a.n c.requires.0 c.requires.1 c.requires.2)

pub returns : goal.returns
unfolding header_for
returns c =
    let a = c.args in
    rw (c.key.ensures, c.saturating_sub.ensures, field_of_count (the_row a.row).total (group_size a.row) a.free a.n c.requires.1)
