-- No dwords where there is no field, and else as many as a length field tells.
use Rattle.std.proofs.Common.{rules, ◌+◌, ◌-◌, ◌*◌, ◌/◌, ◌%◌}
use mathlib.Core.Path.{sym, ap, ◌∙◌}
use native.Mathlib.Nat.{mod-lt}
use lib.Dec.{eqb, lit<}
use Rattle.rules.specs.Commands.{the_row, group_size, length_of}
use Rattle.rules.specs.Writer.{count_right}
use Rattle.rules.proofs.Writing.{none_counted, bare_counted, field_counted}
use Rattle.writer.proofs.WriterLaws.{field_told, switch_told}
use Rattle.writer.proofs.count_right.Goals as goal

pub returns-then-n-eq0 : goal.returns-then-n-eq0
unfolding length_of
returns-then-n-eq0 c =
    let a = c.args in
    ap (λ m. eqb m 1) c.length_of-bare.ensures
    ∙ none_counted (the_row a.row).total (group_size a.row) a.free
    ∙ ap (count_right (the_row a.row).total (group_size a.row) a.free) (sym c.if-n-eq0.true)

pub returns-then-bare : goal.returns-then-bare
unfolding length_of
returns-then-bare c =
    let a = c.args in
    sym (bare_counted (the_row a.row).total (group_size a.row) a.free a.n (sym c.length_of-bare.ensures ∙ c.if-bare.true) (search rules))

pub returns : goal.returns
unfolding length_of
returns c =
    let a = c.args in
    c.length_right.ensures
    ∙ field_counted a.row a.free a.n (a.free / 0x200000 % 2 * 0x200000 + (a.n - 1)) c.requires
    (λ z. c.if-bare.false (c.length_of-bare.ensures ∙ z)) (field_told _ a.n (search rules) (search rules))
    (switch_told _ a.n (mod-lt _ (lit< tt)) (search rules))
