-- `OpenLine::put_text` meets its contract: the text copied into its place is put there.
use Rattle.std.proofs.Common.{refl, ap, ◌∙◌, arith, length}
use lib.Seq.{length-sets}
use Rattle.lines.proofs.Putting.{copied}
use Rattle.lines.proofs.OpenLine.put_text.Goals as goal

pub returns : goal.returns
returns c =
    let e = copied _ _ _ _ _ refl c.requires c.copy_from_slice.ensures.after in
    record { same_reference = refl; as_long = ap length e ∙ length-sets c.args.self.now.bytes.now c.args.self.now.end c.args.text.now; put = record { short = omega arith; ends = refl; written = e } }
