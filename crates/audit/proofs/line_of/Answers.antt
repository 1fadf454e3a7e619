-- The text of a name is as long as a line takes it, also in quotation marks.
use Rattle.std.proofs.Common.{rules}
use Rattle.lines.proofs.Putting.{line_within}
use Rattle.members.proofs.Bounds.{shown_fits}
use Rattle.audit.proofs.line_of.Goals as goal

pub one_line-requires : goal.one_line-requires
one_line-requires c = let within = line_within c.shown-n.ensures in (search rules, shown_fits _ c.shown-n.ensures c.shortened.ensures)
