-- `answer_line` meets its contract: four labelled numbers and a line feed, each behind the last.
use Rattle.std.proofs.Common.{arith, append_assoc}
use Rattle.rules.specs.Printout.{answer_line}
use Rattle.lines.proofs.Putting.{then, whole}
use Rattle.printout.proofs.answer_line.Goals as goal

pub returns : goal.returns
unfolding answer_line
returns c =
    let counted = then c.put_labelled-3.ensures (then c.put_labelled-4.ensures c.put_byte.ensures) in
    whole c.new-line.ensures c.len.ensures (omega arith) (simp append_assoc at (then c.put_labelled.ensures (then c.put_labelled-2.ensures counted)))
