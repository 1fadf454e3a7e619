-- A dword that is asked, and the end.
use Rattle.std.proofs.Common.{rules}
use mathlib.Core.Path.{sym, ◌∙◌}
use Rattle.writer.proofs.WriterLaws.{found, goes_on, none_left, asked, place_few}
use Rattle.writer.proofs.bits_kept.Goals as goal

pub bit_wrong-requires : goal.bit_wrong-requires
bit_wrong-requires c =
    let q = c.requires in
    (search rules, rw c.group_size-size.ensures (place_few c.args.row _ _ q.0 q.1 c.loop-k.invariant.from (search rules)), q.0, q.2)

pub returns-then-bit_wrong : goal.returns-then-bit_wrong
returns-then-bit_wrong c =
    let l = c.loop-k.invariant in
    found l (search rules) (sym (asked _ _ _ _ c.bit_wrong.ensures c.group_size-size.ensures l.from) ∙ c.if-bit_wrong.true)

pub loop-k-preserved : goal.loop-k-preserved
loop-k-preserved c =
    let l = c.loop-k.invariant in
    goes_on l (search rules) (sym (asked _ _ _ _ c.bit_wrong.ensures c.group_size-size.ensures l.from) ∙ c.if-bit_wrong.false)

pub returns : goal.returns
returns c = none_left c.loop-k.invariant (search rules)
