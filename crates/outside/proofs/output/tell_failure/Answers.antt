use Rattle.outside.proofs.Bytes.{line_written}
use Rattle.outside.proofs.output.tell_failure.Goals as goal

pub returns : goal.returns
returns g c =
    line_written c.write_all-4.result _ _ _ _ _ _ _ _ _ c.in_ok-write_all.ensures.whole c.in_ok-write_all-2.ensures.whole c.in_ok-write_all-3.ensures.whole
    c.write_all-4.ensures.whole
