-- The front, and the line behind it.
use Rattle.std.proofs.Common.{◌++◌, codes}
use Rattle.outside.proofs.Bytes.{line_behind}
use Rattle.outside.proofs.output.Outputs.complain.Goals as goal

pub returns-clause-told : goal.returns-clause-told
returns-clause-told g c =
    rw c.and.ensures
    (line_behind c.write_all-front.result c.tell_failure-line.result _ _ _ _ (λ words. c.args.what.now ++ codes ": " ++ words ++ codes "\n") c.write_all-front.ensures.whole
    c.tell_failure-line.ensures)
